-- What is kept of a box: what stands in it, and in place of its past the tick at which each entry of the
-- buses changed last.
use Rattle.std.specs.Prelude.{◌≡◌, ℕ, ℤ, ◌+◌, Bool, List, [], ◌∷◌, ◌++◌, length, map}
use Rattle.std.specs.List.{flat_map}
use Rattle.pb_names.specs.declared.ttlin.TheConstants as ttlin
use Rattle.pb_names.specs.declared.inenc.TheConstants as inenc
use Rattle.pb_buses.specs.declared.Buses.{Buses}
use Rattle.pb_buses.specs.Buses.{with_bit, with_position, opening_buses, AgreesWithPast}
use Rattle.pb_model.specs.declared.blocks.Block.{Block}
use Rattle.pb_model.specs.Machines.{machine_kinds}
use Rattle.pb_model.specs.Tick.{Standing, Box, kind_of, bits_of, positions_of, block_after, opening_standing}

-- the bit entries from this one on take these values at a tick
abbrev pub with_bits : ℕ → List Bool → ℕ → Buses → Buses
with_bits entry [] tick buses = buses
with_bits entry (value ∷ values) tick buses = with_bits (entry + 1) values tick (with_bit buses entry value tick)

-- the position entries from this one on take these values at a tick
abbrev pub with_positions : ℕ → List ℤ → ℕ → Buses → Buses
with_positions entry [] tick buses = buses
with_positions entry (value ∷ values) tick buses =
    with_positions (entry + 1) values tick (with_position buses entry value tick)

-- the buses with the outputs of these blocks and settings of BITS from this tick on
abbrev pub buses_with : ℕ → List Block → List Bool → Buses → Buses
buses_with tick blocks settings buses =
    with_positions inenc.INSTANCES (flat_map positions_of blocks) tick
    (with_bits ttlin.INSTANCES (flat_map bits_of blocks ++ settings) tick buses)

pub record Kept : Type 0 where
  pub tick : ℕ
  pub buses : Buses
  pub settings : List Bool
  pub blocks : List Block

-- The blocks are those of the catalogue, and BITS has four settings.
pub record IsWhole (blocks : List Block) (settings : List Bool) : Type 0 where
  pub kinds : map kind_of blocks ≡ machine_kinds
  pub four : length settings ≡ 4

-- what stands
abbrev pub stands_of : Kept → Standing
stands_of kept = record { tick = kept.tick; bus = kept.buses.bus; settings = kept.settings; blocks = kept.blocks }

-- as the box opens
abbrev pub opening : Kept
opening = record { tick = 0; buses = opening_buses; settings = opening_standing.settings; blocks = opening_standing.blocks }

-- what is kept one tick later
abbrev pub kept_after : Kept → Kept
kept_after kept =
    let blocks : List Block = map (block_after kept.buses.bus kept.tick) kept.blocks in
    record {
      tick = kept.tick + 1;
      buses = buses_with (kept.tick + 1) blocks kept.settings kept.buses;
      settings = kept.settings;
      blocks = blocks;
    }

-- What is kept is that of a box: the same stands, there is a state of the bus for each tick before now, and
-- the ticks of changes are those of these states.
pub record Agrees (kept : Kept) (box : Box) : Type 0 where
  pub stands : stands_of kept ≡ box.stands
  pub ticks : length box.past ≡ kept.tick
  pub changes : AgreesWithPast kept.buses box.past

-- the box with other buses
abbrev pub with_buses : Kept → Buses → Kept
with_buses kept buses = record { tick = kept.tick; buses = buses; settings = kept.settings; blocks = kept.blocks }
