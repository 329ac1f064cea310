-- The slots of the catalogue, and what each of them is.
use Rattle.std.specs.Prelude.{ℕ, ◌-◌, ◌<◌, ◌≤◌, ◌==◌, List, length, slice_index_or, Option, Some, None, if◌then◌else◌}
use Rattle.pb_names.specs.declared.TheConstants.{BLOCKS, ITSELF}
use Rattle.pb_fields.specs.declared.slots.Slot.{Slot}
use Rattle.pb_fields.specs.declared.kinds.FieldKind.{FieldKind}
use Rattle.pb_fields.specs.declared.roles.Role.{Role}
use Rattle.pb_fields.specs.declared.roles.Role.TheVariants as roles
use Rattle.pb_fields.specs.declared.types.FieldType.{FieldType}
use Rattle.pb_fields.specs.declared.types.Attribute.{Attribute}
use Rattle.pb_fields.specs.declared.types.Attribute.TheVariants as attributes
use Rattle.pb_fields.specs.Types.{attributes_of, attribute_default, attribute_kind, field_kind, role_of}
use Rattle.pb_fields.specs.Catalogue.{FieldRow}
use Rattle.pb_fields.specs.Places.{count_of, fields_of, field_of, type_of}

-- the type of a slot's field
abbrev pub type_at : Slot → FieldType
type_at slot = type_of slot.block slot.field

-- the attributes that a slot's field has
abbrev pub attributes_at : Slot → List Attribute
attributes_at slot = attributes_of (type_at slot)

-- the slot is in the catalogue
pub record IsSlot (slot : Slot) : Type 0 where
  pub in_blocks : slot.block < BLOCKS
  pub from_one : 1 ≤ slot.instance
  pub in_count : slot.instance ≤ count_of slot.block
  pub in_fields : slot.field < length (fields_of slot.block)
  pub in_attributes : slot.attr ≤ length (attributes_at slot)

-- the attribute that the slot is, if it isn't the field itself
abbrev pub attribute_at : Slot → Option Attribute
attribute_at slot =
    if slot.attr == ITSELF then None
    else Some (slice_index_or (attributes_at slot) (slot.attr - 1) attributes.Info)

abbrev pub kind_by : FieldType → Option Attribute → FieldKind
kind_by t None = field_kind t
kind_by t (Some attribute) = attribute_kind attribute t

-- what the value of a slot is
abbrev pub kind_of : Slot → FieldKind
kind_of slot = kind_by (type_at slot) (attribute_at slot)

-- what the slot is to its block
abbrev pub role_at : Slot → Role
role_at slot = if slot.attr == ITSELF then role_of (type_at slot) else roles.Attr

abbrev pub default_by : FieldRow → Option Attribute → ℕ
default_by row None = row.default
default_by row (Some attribute) = attribute_default attribute

-- the raw value that a slot has at first; 0 where the catalogue has no such slot
abbrev pub default_of : Slot → ℕ
default_of slot = default_by (field_of slot.block slot.field) (attribute_at slot)
