-- One tick of the box.
use Rattle.std.specs.Prelude.{ℕ, zero, suc, ℤ, pos, ◌+◌, ◌==◌, Bool, true, false, List, [], ◌∷◌, ◌++◌, map, filter, take, drop, replicate, slice_set, if◌then◌else◌, ◌<◌, ◌≤◌, ◌⊎◌}
use Rattle.std.specs.List.{flat_map}
use Rattle.pb_fields.specs.declared.FieldType.{FieldType}
use Rattle.pb_fields.specs.declared.FieldType.TheVariants as types
use Rattle.pb_fields.specs.Catalogue.{FieldRow}
use Rattle.pb_fields.specs.Places.{fields_of}
use Rattle.pb_names.specs.declared.ttlin.TheConstants as ttlin
use Rattle.pb_names.specs.declared.inenc.TheConstants as inenc
use Rattle.pb_names.specs.declared.pcap.TheConstants as pcap
use Rattle.pb_names.specs.declared.bit_bus.TheConstants as bit_bus
use Rattle.pb_names.specs.declared.position_bus.TheConstants as position_bus
use Rattle.pb_buses.specs.declared.Inputs.{Inputs}
use Rattle.pb_buses.specs.declared.Emit.{Emit}
use Rattle.pb_buses.specs.declared.Emit.TheVariants as emits
use Rattle.pb_buses.specs.declared.Bus.{Bus}
use Rattle.pb_buses.specs.Delay.{BitInput, seen, shifted, wired, opening_input, digits}
use Rattle.pb_buses.specs.Buses.{selected, position, words, opening_bus}
use Rattle.pb_model.specs.Units.{place_of, next, emitted, shown, bit_outputs, position_outputs, opening_unit}
use Rattle.pb_model.specs.Machines.{machine_kinds}
use Rattle.pb_model.specs.declared.blocks.Block.{Block}

-- the kind of a block, as its place in the catalogue
abbrev pub kind_of : Block → ℕ
kind_of block = place_of block.unit

-- What a block sees.

-- what it sees of a bit input
abbrev pub seen_on : Bus → BitInput → Bool
seen_on bus input = seen input (selected bus input.select)

-- PCAP alone sees the whole of both buses
abbrev pub sees_all : Block → Bool
sees_all block = kind_of block == pcap.BLOCK

abbrev pub inputs_of : Bus → Block → Inputs
inputs_of bus block =
    record {
      bits = map (seen_on bus) block.bits;
      positions = map (position bus) block.positions;
      words = if sees_all block then words bus else replicate 4 0;
      bus = if sees_all block then bus.positions else replicate position_bus.WIDTH (pos 0);
    }

-- One tick of a block.

-- the value that an input selects goes into its delay line
abbrev pub input_after : Bus → BitInput → BitInput
input_after bus input = shifted input (selected bus input.select) 1

abbrev pub block_after : Bus → ℕ → Block → Block
block_after bus tick block =
    record {
      unit = next block.unit (inputs_of bus block) tick;
      bits = map (input_after bus) block.bits;
      positions = block.positions;
    }

abbrev pub emitted_by : Bus → ℕ → Block → Emit
emitted_by bus tick block = emitted block.unit (inputs_of bus block) tick

-- what is handed on of that which the blocks emit: it is PCAP's, since no other block emits
abbrev pub or_before : Emit → Emit → Emit
or_before before emits.Nothing = before
or_before before (emits.Record record_) = emits.Record record_
or_before before (emits.Completed condition) = emits.Completed condition

abbrev pub handed_on : Emit → List Emit → Emit
handed_on before [] = before
handed_on before (emit ∷ later) = handed_on (or_before before emit) later

-- What the blocks show.

-- the bit outputs of a block, in the order of the catalogue
abbrev pub bits_of : Block → List Bool
bits_of block = digits (bit_outputs (kind_of block)) (shown block.unit).bits

-- its position output, where it has one
abbrev pub positions_of : Block → List ℤ
positions_of block = take (position_outputs (kind_of block)) ((shown block.unit).position ∷ [])

-- The bus of the next tick: the entries of TTLIN and INENC stay until the stimulus puts others, then come
-- the outputs of the blocks, one block after the other, then those of BITS, which are its settings at this
-- tick. Nothing drives the entries that are left.
abbrev pub bus_after : Bus → List Block → List Bool → Bus
bus_after bus blocks settings =
    record {
      bits = take ttlin.INSTANCES bus.bits ++ flat_map bits_of blocks ++ settings ++ drop bit_bus.USED bus.bits;
      positions = take inenc.INSTANCES bus.positions ++ flat_map positions_of blocks ++ drop position_bus.USED bus.positions;
    }

-- The box.

-- What stands in it at a tick: the bus, the settings A to D of BITS, and the blocks in the order of the
-- catalogue.
pub record Standing : Type 0 where
  pub tick : ℕ
  pub bus : Bus
  pub settings : List Bool
  pub blocks : List Block

abbrev pub blocks_after : Standing → List Block
blocks_after box = map (block_after box.bus box.tick) box.blocks

-- what stands one tick later
abbrev pub standing_after : Standing → Standing
standing_after box =
    record {
      tick = box.tick + 1;
      bus = bus_after box.bus (blocks_after box) box.settings;
      settings = box.settings;
      blocks = blocks_after box;
    }

-- what the tick emits
abbrev pub emitted_of : Standing → Emit
emitted_of box = handed_on emits.Nothing (map (emitted_by box.bus box.tick) box.blocks)

-- the box: what stands in it, and the states of the bus at the ticks before, the latest first
pub record Box : Type 0 where
  pub stands : Standing
  pub past : List Bus

-- one tick: the bus goes to the past
abbrev pub tick : Box → Box
tick box = record { stands = standing_after box.stands; past = box.stands.bus ∷ box.past }

-- so many ticks
abbrev pub ticks : ℕ → Box → Box
ticks zero box = box
ticks (suc n) box = ticks n (tick box)

-- The stimulus puts values on the bus.

-- the entries of TTLIN and of INENC, the positions counted from the end of the bit bus on
abbrev pub IsInputEntry : ℕ → Type 0
IsInputEntry entry =
    (entry < ttlin.INSTANCES)
    ⊎ ((position_bus.FIRST ≤ entry) × (entry < position_bus.FIRST + inenc.INSTANCES))

abbrev pub with_bus : Box → Bus → Box
with_bus box bus =
    record {
      stands = record {
        tick = box.stands.tick;
        bus = bus;
        settings = box.stands.settings;
        blocks = box.stands.blocks;
      };
      past = box.past;
    }

abbrev pub put_bit : Box → ℕ → Bool → Box
put_bit box entry value =
    with_bus box
    (record { bits = slice_set box.stands.bus.bits entry value; positions = box.stands.bus.positions })

abbrev pub put_position : Box → ℕ → ℤ → Box
put_position box entry value =
    with_bus box
    (record { bits = box.stands.bus.bits; positions = slice_set box.stands.bus.positions entry value })

-- As the box opens.

-- what the bit inputs of a kind select: their defaults, and ZERO beyond
abbrev pub is_bit_mux : FieldType → Bool
is_bit_mux types.BitMux = true
is_bit_mux _ = false

unfoldable pub opening_selections : ℕ → List ℕ
opening_selections kind =
    take 5 (map (λ (f : FieldRow). f.default) (filter (λ (f : FieldRow). is_bit_mux f.holds) (fields_of kind))
    ++ replicate 5 bit_bus.ZERO)

unfoldable pub opening_block : ℕ → Block
opening_block kind =
    record {
      unit = opening_unit kind;
      bits = map (wired opening_input) (opening_selections kind);
      positions = position_bus.ZERO ∷ position_bus.ZERO ∷ position_bus.ZERO ∷ [];
    }

abbrev pub opening_standing : Standing
opening_standing =
    record {
      tick = 0;
      bus = opening_bus;
      settings = false ∷ false ∷ false ∷ false ∷ [];
      blocks = map opening_block machine_kinds;
    }

abbrev pub opening_box : Box
opening_box = record { stands = opening_standing; past = [] }
