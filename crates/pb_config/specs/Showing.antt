-- What is printed of a slot that has its value from the settings or from the catalogue.
use Rattle.std.specs.Prelude.{ℕ, ◌/◌, ◌%◌, ◌==◌, Bool, true, false, List, ℤ, ◌+ℤ◌, ◌*ℤ◌, decimal, codes, Option, Some, None, if◌then◌else◌}
use Rattle.std.specs.Int.{w64, cast_signed}
use Rattle.pb_words.specs.Decimals.{canonical}
use Rattle.pb_words.specs.Hex.{hex_text}
use Rattle.pb_names.specs.declared.bit_bus.TheConstants as bit_bus
use Rattle.pb_names.specs.declared.pos_out.TheConstants as pos_out
use Rattle.pb_fields.specs.declared.Slot.{Slot}
use Rattle.pb_fields.specs.declared.FieldType.{FieldType}
use Rattle.pb_fields.specs.declared.FieldType.TheVariants as types
use Rattle.pb_fields.specs.declared.Attribute.{Attribute}
use Rattle.pb_fields.specs.declared.Attribute.TheVariants as attributes
use Rattle.pb_fields.specs.Types.{limit_of, type_text}
use Rattle.pb_fields.specs.Slots.{type_at, attribute_at}
use Rattle.pb_fields.specs.Entries.{output_entry}
use Rattle.pb_fields.specs.Values.{shown}
use Rattle.pb_config.specs.Settings.{Settings, raw_of, text_of, field_slot, kind_now}

-- the name of a word of the bit bus
abbrev pub word_name : ℕ → List ℕ
word_name word =
    if word == 0 then codes "PCAP.BITS0" else
    (if word == 1 then codes "PCAP.BITS1" else
    (if word == 2 then codes "PCAP.BITS2" else codes "PCAP.BITS3"))

-- a field whose value is kept, or can't be asked for
abbrev pub is_line_of_field : FieldType → Bool
is_line_of_field types.ReadUint = false
is_line_of_field (types.ReadEnum labels) = false
is_line_of_field types.BitOut = false
is_line_of_field types.PosOut = false
is_line_of_field types.Table = false
is_line_of_field _ = true

-- an attribute of one line, which doesn't tell of a block
abbrev pub is_line_of_attribute : Attribute → Bool
is_line_of_attribute attributes.Labels = false
is_line_of_attribute attributes.Scaled = false
is_line_of_attribute attributes.Bits = false
is_line_of_attribute attributes.Length = false
is_line_of_attribute attributes.Fields = false
is_line_of_attribute attributes.Base64 = false
is_line_of_attribute _ = true

abbrev pub is_line_by : FieldType → Option Attribute → Bool
is_line_by t None = is_line_of_field t
is_line_by t (Some attribute) = is_line_of_attribute attribute

-- the slot's value is one line, and no block has it
abbrev pub is_line : Slot → Bool
is_line slot = is_line_by (type_at slot) (attribute_at slot)

abbrev pub is_readable_field : FieldType → Bool
is_readable_field types.WriteAction = false
is_readable_field types.ExtOut = false
is_readable_field types.BitWord = false
is_readable_field _ = true

abbrev pub is_readable_by : FieldType → Option Attribute → Bool
is_readable_by t None = is_readable_field t
is_readable_by t (Some attribute) = true

-- the slot's value can be asked for: it is no write field and no ext_out
abbrev pub is_readable : Slot → Bool
is_readable slot = is_readable_by (type_at slot) (attribute_at slot)

-- what is printed of a value that has a raw value
abbrev pub raw_shown : Settings → Slot → List ℕ
raw_shown settings slot = shown (kind_now settings slot) (raw_of settings slot)

abbrev pub field_shown : Settings → Slot → FieldType → List ℕ
field_shown settings slot types.ParamLut = text_of settings slot
field_shown settings slot _ = raw_shown settings slot

abbrev pub attribute_shown : Settings → Slot → FieldType → Attribute → List ℕ
attribute_shown settings slot t attributes.Info = type_text t
attribute_shown settings slot t attributes.Max = decimal (limit_of t)
attribute_shown settings slot t attributes.LutRaw = hex_text (raw_of settings (field_slot slot))
attribute_shown settings slot t attributes.TimeRaw = decimal (raw_of settings (field_slot slot))
attribute_shown settings slot t attributes.CaptureWord = word_name (output_entry slot / bit_bus.WORD)
attribute_shown settings slot t attributes.BitOffset = decimal (output_entry slot % bit_bus.WORD)
attribute_shown settings slot t attributes.Units = text_of settings slot
attribute_shown settings slot t attributes.MaxDelay = decimal bit_bus.MAX_DELAY
attribute_shown settings slot t attributes.MaxLength = decimal 16384
attribute_shown settings slot t attributes.RowWords = decimal 4
attribute_shown settings slot t _ = raw_shown settings slot

abbrev pub shown_by : Settings → Slot → FieldType → Option Attribute → List ℕ
shown_by settings slot t None = field_shown settings slot t
shown_by settings slot t (Some attribute) = attribute_shown settings slot t attribute

-- what is printed of a readable slot of one line
abbrev pub shown_at : Settings → Slot → List ℕ
shown_at settings slot = shown_by settings slot (type_at slot) (attribute_at slot)

abbrev pub is_scaled_by : Option Attribute → Bool
is_scaled_by (Some attributes.Scaled) = true
is_scaled_by _ = false

-- the slot is SCALED of a position
abbrev pub is_scaled : Slot → Bool
is_scaled slot = is_scaled_by (attribute_at slot)

-- the decimal that an attribute of the position holds, in billionths
abbrev pub decimal_at : Settings → Slot → ℕ → ℤ
decimal_at settings slot attr = cast_signed w64 (raw_of settings (record slot { attr = attr }))

-- a position scaled, in billionths: its value times SCALE plus OFFSET
abbrev pub scaled : Settings → Slot → ℤ → ℤ
scaled settings slot value = value *ℤ decimal_at settings slot pos_out.SCALE +ℤ decimal_at settings slot pos_out.OFFSET

-- what is printed of it
abbrev pub scaled_shown : Settings → Slot → ℤ → List ℕ
scaled_shown settings slot value = canonical (scaled settings slot value)
