-- The bit inputs of the box, read back by the slots of their muxes.
use Rattle.std.specs.Prelude.{◌≡◌, List, slice_index_or}
use Rattle.pb_names.specs.declared.TheConstants.{ITSELF}
use Rattle.pb_names.specs.declared.bit_mux.TheConstants as bit_mux
use Rattle.pb_fields.specs.declared.Slot.{Slot}
use Rattle.pb_fields.specs.declared.FieldType.TheVariants as types
use Rattle.pb_fields.specs.Slots.{IsSlot, type_at}
use Rattle.pb_buses.specs.Delay.{BitInput, opening_input}
use Rattle.pb_model.specs.declared.Block.{Block}
use Rattle.pb_model.specs.Machines.{machines, of_name}
use Rattle.pb_model.specs.Tick.{opening_block}
use Rattle.pb_model.specs.Settings.{bit_place, block_of_slot}
use Rattle.pb_config.specs.Settings.{raw_of}
use Rattle.pb_core.specs.Core.{CoreState}

-- the slot of a bit mux
pub record IsMux (slot : Slot) : Type 0 where
  pub in_catalogue : IsSlot slot
  pub mux : type_at slot ≡ types.BitMux
  pub itself : slot.attr ≡ ITSELF

-- the slot of its DELAY
abbrev pub delay_of : Slot → Slot
delay_of slot = record { block = slot.block; instance = slot.instance; field = slot.field; attr = bit_mux.DELAY }

-- the bit input of the blocks that a mux stands for
abbrev pub input_of : List Block → Slot → BitInput
input_of blocks slot =
    slice_index_or (of_name machines (block_of_slot slot) blocks (opening_block slot.block)).bits (bit_place slot) opening_input

-- each bit input selects what the settings have, and is delayed as they have it
pub record MuxesAreSet (core : CoreState) : Type 0 where
  pub selections : (slot : Slot) → IsMux slot → (input_of core.box.stands.blocks slot).select ≡ raw_of core.settings slot
  pub delays : (slot : Slot) → IsMux slot → (input_of core.box.stands.blocks slot).delay ≡ raw_of core.settings (delay_of slot)
