-- Parts of a tick.
use Rattle.std.specs.Prelude.{◌≡◌, ◌≢◌, ℕ, ◌+◌, ◌<◌, pos, Bool, List, map, take, replicate, min, Option, Some, None}
use Rattle.std.specs.List.{sum_by}
use Rattle.pb_names.specs.declared.ttlin.TheConstants as ttlin
use Rattle.pb_names.specs.declared.inenc.TheConstants as inenc
use Rattle.pb_names.specs.declared.position_bus.TheConstants as position_bus
use Rattle.pb_buses.specs.declared.Bus.{Bus}
use Rattle.pb_buses.specs.declared.Buses.{Buses}
use Rattle.pb_buses.specs.declared.Inputs.{Inputs}
use Rattle.pb_buses.specs.Delay.{BitInput, shifted}
use Rattle.pb_buses.specs.Buses.{selected}
use Rattle.pb_model.specs.declared.blocks.Block.{Block}
use Rattle.pb_model.specs.Units.{bit_outputs, position_outputs}
use Rattle.pb_model.specs.Machines.{machine_kinds}
use Rattle.pb_model.specs.Tick.{seen_on, bits_of, positions_of}
use Rattle.pb_model.specs.Kept.{with_bits, with_positions}

-- of the whole of both buses it has nothing
pub record IsNarrow (inputs : Inputs) : Type 0 where
  pub words : inputs.words ≡ replicate 4 0
  pub bus : inputs.bus ≡ replicate position_bus.WIDTH (pos 0)

-- What a block sees of its bit inputs while the bus stands.

-- so many ticks later
abbrev pub seen_later : Bus → ℕ → List BitInput → List Bool
seen_later bus ticks inputs = map (λ (input : BitInput). seen_on bus (shifted input (selected bus input.select) ticks)) inputs

-- The number of ticks after which it sees something else than now for the first time, or none where it never does.
abbrev pub IsNextSight : Bus → List BitInput → Option ℕ → Type 0
IsNextSight bus inputs None = (ticks : ℕ) → seen_later bus ticks inputs ≡ map (seen_on bus) inputs
IsNextSight bus inputs (Some n) =
    (0 < n)
    × ((ticks : ℕ) → ticks < n → seen_later bus ticks inputs ≡ map (seen_on bus) inputs)
    × (seen_later bus n inputs ≢ map (seen_on bus) inputs)

-- the earlier of two such numbers
abbrev pub earlier : Option ℕ → Option ℕ → Option ℕ
earlier None other = other
earlier (Some m) None = Some m
earlier (Some m) (Some n) = Some (min m n)

-- Where the outputs of one block stand, by its place among those with a machine.

-- the entry of its first bit output, and that of its position output, where it has one
abbrev pub bit_entry : ℕ → ℕ
bit_entry place = ttlin.INSTANCES + sum_by bit_outputs (take place machine_kinds)

abbrev pub position_entry : ℕ → ℕ
position_entry place = inenc.INSTANCES + sum_by position_outputs (take place machine_kinds)

-- the buses with the outputs of the block at this place from a tick on
abbrev pub shown_at : ℕ → Block → ℕ → Buses → Buses
shown_at place block tick buses =
    with_positions (position_entry place) (positions_of block) tick
    (with_bits (bit_entry place) (bits_of block) tick buses)
