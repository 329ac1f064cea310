-- The changes that the box takes.
use Rattle.std.specs.Prelude.{◌≡◌, ℕ, Bool, true, false, List, Option, Some, None}
use Rattle.pb_fields.specs.declared.Slot.{Slot}
use Rattle.pb_fields.specs.declared.Role.{Role}
use Rattle.pb_fields.specs.declared.Role.TheVariants as roles
use Rattle.pb_fields.specs.declared.FieldType.{FieldType}
use Rattle.pb_fields.specs.declared.Attribute.{Attribute}
use Rattle.pb_fields.specs.declared.Attribute.TheVariants as attributes
use Rattle.pb_fields.specs.Types.{role_of}
use Rattle.pb_fields.specs.Slots.{IsSlot, type_at, attribute_at, kind_of}
use Rattle.pb_fields.specs.Values.{IsRaw}
use Rattle.pb_model.specs.declared.blocks.Block.{Block}
use Rattle.pb_model.specs.declared.changes.Change.{Change}
use Rattle.pb_model.specs.declared.changes.Change.TheVariants as changes
use Rattle.pb_model.specs.Arming.{is_capture_idle}

-- the blocks take a value of fields of this role
abbrev pub is_taken_role : Role → Bool
is_taken_role roles.Param = true
is_taken_role roles.Write = true
is_taken_role roles.Time = true
is_taken_role roles.BitMux = true
is_taken_role roles.PosMux = true
is_taken_role _ = false

-- the blocks take a value of this attribute
abbrev pub is_taken_attribute : Attribute → Bool
is_taken_attribute attributes.Delay = true
is_taken_attribute _ = false

abbrev pub is_taken_by : FieldType → Option Attribute → Bool
is_taken_by t None = is_taken_role (role_of t)
is_taken_by t (Some attribute) = is_taken_attribute attribute

-- the slot is a param, a time, a write field or a mux, or the delay of a mux
abbrev pub is_taken : Slot → Bool
is_taken slot = is_taken_by (type_at slot) (attribute_at slot)

-- a setting of the box takes a raw value in its range
pub record IsSet (slot : Slot) (raw : ℕ) : Type 0 where
  pub in_catalogue : IsSlot slot
  pub taken : is_taken slot ≡ true
  pub in_range : IsRaw (kind_of slot) raw

-- a box with these blocks can take the change: PCAP is armed only where it is idle, and disarmed only where it isn't
abbrev pub IsChange : List Block → Change → Type 0
IsChange blocks (changes.Set slot raw) = IsSet slot raw
IsChange blocks (changes.Arm room) = is_capture_idle blocks ≡ true
IsChange blocks changes.Disarm = is_capture_idle blocks ≡ false
