-- Words of private helpers: no public clause cites them.
-- The names of the blocks, each with its place.
use Rattle.std.specs.Prelude.{ℕ, ◌+◌, List, [], ◌∷◌}
use Rattle.std.specs.Borrow.{Bor}
use Rattle.pb_fields.specs.Catalogue.{BlockRow, catalogue}

-- the names of rows with their places, where the first has this place
abbrev pub places_from : ℕ → List BlockRow → List (List ℕ × ℕ)
places_from i [] = []
places_from i (row ∷ rows) = (row.name, i) ∷ places_from (i + 1) rows

-- the names of the blocks with their places
abbrev pub block_places : List (List ℕ × ℕ)
block_places = places_from 0 catalogue

-- an entry of a map from names to places, as a name and a place
abbrev pub place_named : Bor (List ℕ) × ℕ → List ℕ × ℕ
place_named entry = (entry.0.now, entry.1)
