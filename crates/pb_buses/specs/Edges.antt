-- Edges of inputs.
use Rattle.std.specs.Prelude.{ℕ, ◌==◌, Bool, not, ◌&&◌, ◌||◌, if◌then◌else◌}
use Rattle.pb_buses.specs.declared.edges.Edge.{Edge}
use Rattle.pb_buses.specs.declared.edges.Edge.TheVariants as edges
use Rattle.pb_names.specs.declared.edge.TheConstants as names

-- the edge of a raw value of an edge setting
abbrev pub edge_of : ℕ → Edge
edge_of raw =
    if raw == names.FALLING then edges.Falling else (if raw == names.EITHER then edges.Either else edges.Rising)

-- an input that was 0 is 1
abbrev pub rises : Bool → Bool → Bool
rises before seen = seen && not before

-- an input that was 1 is 0
abbrev pub falls : Bool → Bool → Bool
falls before seen = before && not seen

-- an input that was this before, and is seen as that, has the edge
abbrev pub has_edge : Edge → Bool → Bool → Bool
has_edge edges.Rising before seen = rises before seen
has_edge edges.Falling before seen = falls before seen
has_edge edges.Either before seen = rises before seen || falls before seen
