-- What is true of all settings.
use Rattle.std.specs.Prelude.{◌≡◌, ℕ, Bool, true, false, length, Option, Some, None}
use Rattle.pb_fields.specs.declared.Slot.{Slot}
use Rattle.pb_fields.specs.declared.FieldType.{FieldType}
use Rattle.pb_fields.specs.declared.Attribute.{Attribute}
use Rattle.pb_fields.specs.declared.Attribute.TheVariants as attributes
use Rattle.pb_fields.specs.Types.{role_of}
use Rattle.pb_fields.specs.Slots.{IsSlot, type_at, attribute_at, kind_of}
use Rattle.pb_fields.specs.Values.{IsRaw}
use Rattle.pb_model.specs.Changes.{is_taken_role}
use Rattle.pb_config.specs.Settings.{Settings, raw_of, place_count, instance_count}

-- the attribute has a raw value of its own
abbrev pub is_kept_attribute : Attribute → Bool
is_kept_attribute attributes.TimeUnits = true
is_kept_attribute attributes.PosCapture = true
is_kept_attribute attributes.ExtCapture = true
is_kept_attribute attributes.Offset = true
is_kept_attribute attributes.Scale = true
is_kept_attribute attributes.Delay = true
is_kept_attribute _ = false

abbrev pub is_kept_by : FieldType → Option Attribute → Bool
is_kept_by t None = is_taken_role (role_of t)
is_kept_by t (Some attribute) = is_kept_attribute attribute

-- the slot has a raw value of its own
abbrev pub is_kept : Slot → Bool
is_kept slot = is_kept_by (type_at slot) (attribute_at slot)

-- the raw value can be the slot's
abbrev pub CanBe : Slot → ℕ → Type 0
CanBe slot raw = is_kept slot ≡ true → IsRaw (kind_of slot) raw

-- each slot has a value in its range
pub record IsKept (settings : Settings) : Type 0 where
  pub raws : length settings.raws ≡ place_count
  pub texts : length settings.texts ≡ instance_count
  pub ranges : (slot : Slot) → IsSlot slot → CanBe slot (raw_of settings slot)
