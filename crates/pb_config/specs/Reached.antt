-- The settings that assignments reach.
use Rattle.std.specs.Prelude.{ℕ, List}
use Rattle.pb_fields.specs.declared.Slot.{Slot}
use Rattle.pb_fields.specs.Slots.{IsSlot}
use Rattle.pb_config.specs.Settings.{Settings}
use Rattle.pb_config.specs.Defaults.{fresh}
use Rattle.pb_config.specs.Assigning.{after_assignment}

-- the settings are those at first, or come of others by an assignment, which may be refused
pub data IsReached : Settings → Type 0 where
  at_first : IsReached fresh
  by_assignment : (settings : Settings) (slot : Slot) (text : List ℕ) → IsSlot slot → IsReached settings → IsReached (after_assignment settings slot text)
