-- The box has the settings that the core has.
use Rattle.pb_fields.specs.declared.Slot.{Slot}
use Rattle.pb_config.specs.Settings.{raw_of}
use Rattle.pb_model.specs.Staying.{IsKept, HasValue}
use Rattle.pb_core.specs.Core.{CoreState}

-- Each setting of the box is that of the settings: to give a slot the value that it has there changes nothing
-- in the box. It holds of inputs and their delays, of BITS, and of what is set in each kind of block.
abbrev pub HasSettings : CoreState → Type 0
HasSettings core = (slot : Slot) → IsKept slot → HasValue core.box slot (raw_of core.settings slot)
