-- The types of fields, and for each type its attributes, its kind of value and its role.
use Rattle.std.specs.Prelude.{ℕ, Bool, true, false, List, [], ◌∷◌, codes}
use Rattle.pb_names.specs.declared.label_lists.TheConstants as label_lists
use Rattle.pb_names.specs.declared.time_units.TheConstants as time_units
use Rattle.pb_names.specs.declared.bit_bus.TheConstants as bit_bus
use Rattle.pb_fields.specs.declared.kinds.FieldKind.{FieldKind}
use Rattle.pb_fields.specs.declared.kinds.FieldKind.TheVariants as kinds
use Rattle.pb_fields.specs.declared.roles.Role.{Role}
use Rattle.pb_fields.specs.declared.roles.Role.TheVariants as roles
use Rattle.pb_fields.specs.declared.types.FieldType.{FieldType}
use Rattle.pb_fields.specs.declared.types.FieldType.TheVariants as types
use Rattle.pb_fields.specs.declared.types.Attribute.{Attribute}
use Rattle.pb_fields.specs.declared.types.Attribute.TheVariants as attributes

-- the greatest number of 32 bits
abbrev pub word_max : ℕ
word_max = 4294967295

-- the greatest time in ticks, a number of 48 bits
abbrev pub ticks_max : ℕ
ticks_max = 281474976710655

-- the attributes of a field of this type, in their order
abbrev pub attributes_of : FieldType → List Attribute
attributes_of (types.ParamUint limit) = attributes.Info ∷ attributes.Max ∷ []
attributes_of types.ParamInt = attributes.Info ∷ []
attributes_of types.ParamBit = attributes.Info ∷ []
attributes_of (types.ParamEnum labels) = attributes.Info ∷ attributes.Labels ∷ []
attributes_of types.ParamLut = attributes.Info ∷ attributes.LutRaw ∷ []
attributes_of types.ReadUint = attributes.Info ∷ []
attributes_of (types.ReadEnum labels) = attributes.Info ∷ attributes.Labels ∷ []
attributes_of types.WriteAction = attributes.Info ∷ []
attributes_of (types.Time limit) = attributes.Info ∷ attributes.TimeUnits ∷ attributes.TimeRaw ∷ []
attributes_of types.BitOut = attributes.Info ∷ attributes.CaptureWord ∷ attributes.BitOffset ∷ []
attributes_of types.PosOut =
    attributes.Info ∷ attributes.PosCapture ∷ attributes.Offset ∷ attributes.Scale
    ∷ attributes.Units ∷ attributes.Scaled ∷ []
attributes_of types.ExtOut = attributes.Info ∷ attributes.ExtCapture ∷ []
attributes_of types.BitWord = attributes.Info ∷ attributes.ExtCapture ∷ attributes.Bits ∷ []
attributes_of types.BitMux = attributes.Info ∷ attributes.Delay ∷ attributes.MaxDelay ∷ []
attributes_of types.PosMux = attributes.Info ∷ []
attributes_of types.Table =
    attributes.Info ∷ attributes.MaxLength ∷ attributes.Length ∷ attributes.RowWords
    ∷ attributes.Fields ∷ attributes.Base64 ∷ []

-- the name of an attribute
abbrev pub attribute_text : Attribute → List ℕ
attribute_text attributes.Info = codes "INFO"
attribute_text attributes.Max = codes "MAX"
attribute_text attributes.Labels = codes "LABELS"
attribute_text attributes.LutRaw = codes "RAW"
attribute_text attributes.TimeUnits = codes "UNITS"
attribute_text attributes.TimeRaw = codes "RAW"
attribute_text attributes.CaptureWord = codes "CAPTURE_WORD"
attribute_text attributes.BitOffset = codes "OFFSET"
attribute_text attributes.PosCapture = codes "CAPTURE"
attribute_text attributes.Offset = codes "OFFSET"
attribute_text attributes.Scale = codes "SCALE"
attribute_text attributes.Units = codes "UNITS"
attribute_text attributes.Scaled = codes "SCALED"
attribute_text attributes.ExtCapture = codes "CAPTURE"
attribute_text attributes.Bits = codes "BITS"
attribute_text attributes.Delay = codes "DELAY"
attribute_text attributes.MaxDelay = codes "MAX_DELAY"
attribute_text attributes.MaxLength = codes "MAX_LENGTH"
attribute_text attributes.Length = codes "LENGTH"
attribute_text attributes.RowWords = codes "ROW_WORDS"
attribute_text attributes.Fields = codes "FIELDS"
attribute_text attributes.Base64 = codes "B"

-- what the value of a field is; the value of an ext_out can't be asked for, and a table is many numbers
abbrev pub field_kind : FieldType → FieldKind
field_kind (types.ParamUint limit) = kinds.Uint limit
field_kind types.ParamInt = kinds.Int
field_kind types.ParamBit = kinds.Bit
field_kind (types.ParamEnum labels) = kinds.Enum labels
field_kind types.ParamLut = kinds.Lut
field_kind types.ReadUint = kinds.Uint word_max
field_kind (types.ReadEnum labels) = kinds.Enum labels
field_kind types.WriteAction = kinds.Action
field_kind (types.Time limit) = kinds.Time limit time_units.S
field_kind types.BitOut = kinds.Bit
field_kind types.PosOut = kinds.Int
field_kind types.ExtOut = kinds.Text
field_kind types.BitWord = kinds.Text
field_kind types.BitMux = kinds.BitMux
field_kind types.PosMux = kinds.PosMux
field_kind types.Table = kinds.Text

-- what a field is to its block
abbrev pub role_of : FieldType → Role
role_of (types.ParamUint limit) = roles.Param
role_of types.ParamInt = roles.Param
role_of types.ParamBit = roles.Param
role_of (types.ParamEnum labels) = roles.Param
role_of types.ParamLut = roles.Param
role_of types.ReadUint = roles.Read
role_of (types.ReadEnum labels) = roles.Read
role_of types.WriteAction = roles.Write
role_of (types.Time limit) = roles.Time
role_of types.BitOut = roles.BitOut
role_of types.PosOut = roles.PosOut
role_of types.ExtOut = roles.ExtOut
role_of types.BitWord = roles.ExtOut
role_of types.BitMux = roles.BitMux
role_of types.PosMux = roles.PosMux
role_of types.Table = roles.Table

-- the limit of a `param uint` or a time
abbrev pub limit_of : FieldType → ℕ
limit_of (types.ParamUint limit) = limit
limit_of (types.Time limit) = limit
limit_of _ = word_max

-- What the value of an attribute is, at a field of this type. A number that nobody assigns has the greatest
-- value that it takes as its limit. RAW of a lookup table is the number of its function. A scaled position
-- is a decimal with more digits than a number of 64 bits holds, so it counts as a text.
abbrev pub attribute_kind : Attribute → FieldType → FieldKind
attribute_kind attributes.Info t = kinds.Text
attribute_kind attributes.Max t = kinds.Uint (limit_of t)
attribute_kind attributes.Labels t = kinds.Text
attribute_kind attributes.LutRaw t = kinds.Lut
attribute_kind attributes.TimeUnits t = kinds.Enum label_lists.TIME_UNITS
attribute_kind attributes.TimeRaw t = kinds.Uint (limit_of t)
attribute_kind attributes.CaptureWord t = kinds.Text
attribute_kind attributes.BitOffset t = kinds.Uint 31
attribute_kind attributes.PosCapture t = kinds.Enum label_lists.POSITION_CAPTURE
attribute_kind attributes.Offset t = kinds.Decimal
attribute_kind attributes.Scale t = kinds.Decimal
attribute_kind attributes.Units t = kinds.Text
attribute_kind attributes.Scaled t = kinds.Text
attribute_kind attributes.ExtCapture t = kinds.Enum label_lists.FIELD_CAPTURE
attribute_kind attributes.Bits t = kinds.Text
attribute_kind attributes.Delay t = kinds.Uint bit_bus.MAX_DELAY
attribute_kind attributes.MaxDelay t = kinds.Uint bit_bus.MAX_DELAY
attribute_kind attributes.MaxLength t = kinds.Uint 16384
attribute_kind attributes.Length t = kinds.Uint 16384
attribute_kind attributes.RowWords t = kinds.Uint 4
attribute_kind attributes.Fields t = kinds.Text
attribute_kind attributes.Base64 t = kinds.Text

-- the raw value that an attribute has at first: SCALE is 1, in billionths
abbrev pub attribute_default : Attribute → ℕ
attribute_default attributes.Scale = 1000000000
attribute_default _ = 0

-- a control line can assign the attribute
abbrev pub is_assigned : Attribute → Bool
is_assigned attributes.TimeUnits = true
is_assigned attributes.TimeRaw = true
is_assigned attributes.PosCapture = true
is_assigned attributes.Offset = true
is_assigned attributes.Scale = true
is_assigned attributes.Units = true
is_assigned attributes.ExtCapture = true
is_assigned attributes.Delay = true
is_assigned _ = false

-- the type as INFO tells it, and where there is one the subtype
abbrev pub type_text : FieldType → List ℕ
type_text (types.ParamUint limit) = codes "param uint"
type_text types.ParamInt = codes "param int"
type_text types.ParamBit = codes "param bit"
type_text (types.ParamEnum labels) = codes "param enum"
type_text types.ParamLut = codes "param lut"
type_text types.ReadUint = codes "read uint"
type_text (types.ReadEnum labels) = codes "read enum"
type_text types.WriteAction = codes "write action"
type_text (types.Time limit) = codes "time"
type_text types.BitOut = codes "bit_out"
type_text types.PosOut = codes "pos_out"
type_text types.ExtOut = codes "ext_out"
type_text types.BitWord = codes "ext_out"
type_text types.BitMux = codes "bit_mux"
type_text types.PosMux = codes "pos_mux"
type_text types.Table = codes "table"
