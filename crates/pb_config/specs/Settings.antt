-- The settings of the box: a raw value for each slot, and the texts that are kept as they were assigned.
use Rattle.std.specs.Prelude.{ℕ, ◌+◌, ◌-◌, ◌*◌, List, [], slice_index_or, Option, Some, None}
use Rattle.pb_names.specs.declared.TheConstants.{ITSELF}
use Rattle.pb_names.specs.declared.time.TheConstants as time
use Rattle.pb_fields.specs.declared.Slot.{Slot}
use Rattle.pb_fields.specs.declared.FieldType.{FieldType}
use Rattle.pb_fields.specs.declared.FieldType.TheVariants as types
use Rattle.pb_fields.specs.declared.Attribute.{Attribute}
use Rattle.pb_fields.specs.declared.FieldKind.{FieldKind}
use Rattle.pb_fields.specs.declared.FieldKind.TheVariants as kinds
use Rattle.pb_fields.specs.Types.{field_kind, attribute_kind}
use Rattle.pb_fields.specs.Slots.{type_at, attribute_at}

-- the raw values stand by the places of the slots, the texts by the places of the instances
pub record Settings : Type 0 where
  pub raws : List ℕ
  pub texts : List (List ℕ)

-- the place of an instance: there are at most 8 of a block
abbrev pub instance_place : Slot → ℕ
instance_place slot = slot.block * 8 + (slot.instance - 1)

-- the place of a slot: an instance has at most 21 fields, a field at most 6 attributes
abbrev pub place : Slot → ℕ
place slot = (instance_place slot * 21 + slot.field) * 7 + slot.attr

-- how many places of slots and of instances there are in 12 blocks
abbrev pub place_count : ℕ
place_count = 14112

abbrev pub instance_count : ℕ
instance_count = 96

-- the raw value that a slot has
abbrev pub raw_of : Settings → Slot → ℕ
raw_of settings slot = slice_index_or settings.raws (place slot) 0

-- the kept text of the slot's instance: of a LUT its FUNC without spaces, of an INENC or a COUNTER the
-- units of its position
abbrev pub text_of : Settings → Slot → List ℕ
text_of settings slot = slice_index_or settings.texts (instance_place slot) []

-- the field of an attribute
abbrev pub field_slot : Slot → Slot
field_slot slot = record slot { attr = ITSELF }

-- the attribute UNITS of a time
abbrev pub units_slot : Slot → Slot
units_slot slot = record slot { attr = time.UNITS }

-- the kind of a value while the times of its field have these units
abbrev pub field_kind_in : ℕ → FieldType → FieldKind
field_kind_in units (types.Time limit) = kinds.Time limit units
field_kind_in units t = field_kind t

abbrev pub kind_in : ℕ → FieldType → Option Attribute → FieldKind
kind_in units t None = field_kind_in units t
kind_in units t (Some attribute) = attribute_kind attribute t

-- the kind of a value, a time being in the units in force
abbrev pub kind_now : Settings → Slot → FieldKind
kind_now settings slot = kind_in (raw_of settings (units_slot slot)) (type_at slot) (attribute_at slot)
