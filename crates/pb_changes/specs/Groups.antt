-- The groups of a change report, and which slots belong to each.
use Rattle.std.specs.Prelude.{Bool, true, false, ◌||◌, List, [], ◌∷◌, Option, Some, None}
use Rattle.std.specs.List.{filter}
use Rattle.pb_fields.specs.declared.Slot.{Slot}
use Rattle.pb_fields.specs.declared.Role.{Role}
use Rattle.pb_fields.specs.declared.Role.TheVariants as roles
use Rattle.pb_fields.specs.declared.Attribute.{Attribute}
use Rattle.pb_fields.specs.declared.Attribute.TheVariants as attributes
use Rattle.pb_fields.specs.Types.{is_assigned}
use Rattle.pb_fields.specs.Order.{slots}
use Rattle.pb_fields.specs.Slots.{role_at, attribute_at}
use Rattle.pb_changes.specs.declared.groups.Group.{Group}
use Rattle.pb_changes.specs.declared.groups.Group.TheVariants as groups

-- the groups in the order of a report
abbrev pub all_groups : List Group
all_groups =
    groups.Config ∷ groups.Attr ∷ groups.Table ∷ groups.Bits ∷ groups.Posn ∷ groups.Read ∷ []

-- the groups that a command means: one, or all six where it names none
abbrev pub asked : Option Group → List Group
asked None = all_groups
asked (Some group) = group ∷ []

-- a setting of a block: a param, a time or a mux
abbrev pub is_setting : Role → Bool
is_setting roles.Param = true
is_setting roles.Time = true
is_setting roles.BitMux = true
is_setting roles.PosMux = true
is_setting _ = false

-- an attribute that is assigned for itself: to assign RAW of a time is to assign its field
abbrev pub is_own : Option Attribute → Bool
is_own None = false
is_own (Some attributes.TimeRaw) = false
is_own (Some attribute) = is_assigned attribute

abbrev pub is_table : Role → Bool
is_table roles.Table = true
is_table _ = false

abbrev pub is_bit_out : Role → Bool
is_bit_out roles.BitOut = true
is_bit_out _ = false

abbrev pub is_pos_out : Role → Bool
is_pos_out roles.PosOut = true
is_pos_out _ = false

abbrev pub is_read : Role → Bool
is_read roles.Read = true
is_read _ = false

-- the slot belongs to the group
abbrev pub is_in : Group → Slot → Bool
is_in groups.Config slot = is_setting (role_at slot)
is_in groups.Attr slot = is_own (attribute_at slot)
is_in groups.Table slot = is_table (role_at slot)
is_in groups.Bits slot = is_bit_out (role_at slot)
is_in groups.Posn slot = is_pos_out (role_at slot)
is_in groups.Read slot = is_read (role_at slot)

-- the slot is a setting, an attribute or an output: its line has a value, and no block has to be asked for it
abbrev pub is_settled : Slot → Bool
is_settled slot =
    is_in groups.Config slot || is_in groups.Attr slot || is_in groups.Bits slot || is_in groups.Posn slot

-- the slots of a group in the order of the catalogue
unfoldable pub slots_in : Group → List Slot
slots_in group = filter (is_in group) slots
