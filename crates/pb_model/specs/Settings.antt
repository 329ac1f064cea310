-- What a change does to the box: a setting takes a raw value, or PCAP is armed or disarmed.
use Rattle.std.specs.Prelude.{ℕ, ◌==◌, Bool, true, false, List, length, filter, take, slice_index_or, slice_set, if◌then◌else◌}
use Rattle.pb_names.specs.declared.TheConstants.{ITSELF}
use Rattle.pb_names.specs.declared.bits.TheConstants as bits
use Rattle.pb_fields.specs.declared.Slot.{Slot}
use Rattle.pb_fields.specs.declared.FieldType.{FieldType}
use Rattle.pb_fields.specs.declared.FieldType.TheVariants as types
use Rattle.pb_fields.specs.Catalogue.{FieldRow}
use Rattle.pb_fields.specs.Places.{fields_of}
use Rattle.pb_fields.specs.Slots.{type_at}
use Rattle.pb_buses.specs.Delay.{BitInput, wired, delayed, opening_input}
use Rattle.pb_model.specs.declared.changes.Change.{Change}
use Rattle.pb_model.specs.declared.changes.Change.TheVariants as changes
use Rattle.pb_model.specs.declared.blocks.Block.{Block}
use Rattle.pb_model.specs.Units.{with_field, value_read}
use Rattle.pb_model.specs.Machines.{Name, name, machines, with_named, of_name}
use Rattle.pb_model.specs.Tick.{Box, is_bit_mux, opening_block}
use Rattle.pb_model.specs.Kept.{Kept}
use Rattle.pb_model.specs.Arming.{blocks_armed, blocks_disarmed, box_with_blocks, kept_with_blocks}

abbrev pub is_pos_mux : FieldType → Bool
is_pos_mux types.PosMux = true
is_pos_mux _ = false

-- how many fields of this sort stand in a block before the field at that place
unfoldable pub so_many_before : (FieldType → Bool) → ℕ → ℕ → ℕ
so_many_before is_sort kind field = length (filter (λ (f : FieldRow). is_sort f.holds) (take field (fields_of kind)))

-- which bit input, or position input, of its block the field of a mux is
abbrev pub bit_place : Slot → ℕ
bit_place slot = so_many_before is_bit_mux slot.block slot.field

abbrev pub position_place : Slot → ℕ
position_place slot = so_many_before is_pos_mux slot.block slot.field

-- the block with one bit input changed, and nothing else
abbrev pub with_input : ℕ → (BitInput → BitInput) → Block → Block
with_input place change block =
    record {
      unit = block.unit;
      bits = slice_set block.bits place (change (slice_index_or block.bits place opening_input));
      positions = block.positions;
    }

-- the block with one position input selecting this entry, and nothing else
abbrev pub with_selected_position : ℕ → ℕ → Block → Block
with_selected_position place entry block =
    record { unit = block.unit; bits = block.bits; positions = slice_set block.positions place entry }

-- the block with this raw value in a field: a mux selects it, and any other field is the unit's own
abbrev pub with_field_value : FieldType → Slot → ℕ → Block → Block
with_field_value types.BitMux slot raw block = with_input (bit_place slot) (λ input. wired input raw) block
with_field_value types.PosMux slot raw block = with_selected_position (position_place slot) raw block
with_field_value _ slot raw block =
    record { unit = with_field block.unit slot.field raw; bits = block.bits; positions = block.positions }

-- the block with this raw value in a setting: of the attributes it takes the DELAY of a mux alone
abbrev pub with_value : Slot → ℕ → Block → Block
with_value slot raw block =
    if slot.attr == ITSELF then with_field_value (type_at slot) slot raw block
    else with_input (bit_place slot) (λ input. delayed input raw) block

-- the name of the block that has a slot
abbrev pub block_of_slot : Slot → Name
block_of_slot slot = name slot.block slot.instance

-- What stands in the box with this raw value in a setting: BITS has settings of its own, and any other setting
-- belongs to the block of that name.
abbrev pub settings_with : Slot → ℕ → List Bool → List Bool
settings_with slot raw settings =
    if slot.block == bits.BLOCK then slice_set settings slot.field (raw == 1) else settings

abbrev pub blocks_with : Slot → ℕ → List Block → List Block
blocks_with slot raw blocks =
    if slot.block == bits.BLOCK then blocks
    else with_named machines (block_of_slot slot) (with_value slot raw) blocks

-- the box after a change
abbrev pub changed_box : Box → Change → Box
changed_box box (changes.Set slot raw) =
    record {
      stands = record {
        tick = box.stands.tick;
        bus = box.stands.bus;
        settings = settings_with slot raw box.stands.settings;
        blocks = blocks_with slot raw box.stands.blocks;
      };
      past = box.past;
    }
changed_box box (changes.Arm room) = box_with_blocks box (blocks_armed room box.stands.blocks)
changed_box box changes.Disarm = box_with_blocks box (blocks_disarmed box.stands.blocks)

-- what is kept of the box after a change
abbrev pub with_setting : Kept → Slot → ℕ → Kept
with_setting kept slot raw =
    record {
      tick = kept.tick;
      buses = kept.buses;
      settings = settings_with slot raw kept.settings;
      blocks = blocks_with slot raw kept.blocks;
    }

abbrev pub changed : Kept → Change → Kept
changed kept (changes.Set slot raw) = with_setting kept slot raw
changed kept (changes.Arm room) = kept_with_blocks kept (blocks_armed room kept.blocks)
changed kept changes.Disarm = kept_with_blocks kept (blocks_disarmed kept.blocks)

-- what a read field of one of the blocks shows
abbrev pub read_of : List Block → Slot → ℕ
read_of blocks slot =
    value_read (of_name machines (block_of_slot slot) blocks (opening_block slot.block)).unit slot.field
