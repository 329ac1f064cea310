-- What a layout is made of: the captured entries, and how many bytes each takes in a record.
use Rattle.std.specs.Prelude.{ℕ, ◌+◌, ◌-◌, ◌^◌, ◌<◌, ◌≤◌, ◌≡◌, ◌≢◌, ◌⊎◌, nat_lt, List, [], ◌∷◌, ◌++◌, length, take, replicate, unsigned_abs, if◌then◌else◌, ⊤}
use Rattle.pb_names.specs.declared.position_bus.TheConstants as bus_names
use Rattle.pb_pcap.specs.declared.entries.TheConstants as names
use Rattle.pb_pcap.specs.declared.fields.Choice.{Choice}
use Rattle.pb_pcap.specs.declared.fields.Choice.TheVariants as choices
use Rattle.pb_pcap.specs.declared.fields.Units.{Units}
use Rattle.pb_pcap.specs.declared.fields.Field.{Field}

-- Units are a text of at most 32 bytes, with zeros behind it.
abbrev pub units_of : List ℕ → Units
units_of text = record { text = text ++ replicate (32 - length text) 0; len = length text }

abbrev pub name_of : Units → List ℕ
name_of units = take units.len units.text

-- the positions that have a name, and the time stamps, the count and the words
abbrev pub IsNamed : ℕ → Type 0
IsNamed entry = (entry < bus_names.USED) ⊎ ((bus_names.WIDTH ≤ entry) × (entry < names.COUNT))

-- what is captured of an entry: something, and of what is no position its value
abbrev pub Suits : ℕ → Choice → Type 0
Suits entry choice = (choice ≢ choices.No) × (bus_names.WIDTH ≤ entry → choice ≡ choices.Value)

-- a field of a layout; scale and offset of a position are below a billion in size
pub record IsField (field : Field) : Type 0 where
  pub named : IsNamed field.entry
  pub suits : Suits field.entry field.choice
  pub scale_is_small : field.entry < bus_names.WIDTH → unsigned_abs field.scale.billionths < 10 ^ 18
  pub offset_is_small : field.entry < bus_names.WIDTH → unsigned_abs field.offset.billionths < 10 ^ 18

-- the fields of a layout: by rising entries, from this one on
abbrev pub AreFieldsFrom : ℕ → List Field → Type 0
AreFieldsFrom low [] = ⊤
AreFieldsFrom low (field ∷ fields) = (low ≤ field.entry) × IsField field × AreFieldsFrom (field.entry + 1) fields

abbrev pub IsLayout : List Field → Type 0
IsLayout fields = AreFieldsFrom 0 fields

-- How many bytes they take in a record.

-- a value, a least and a greatest value take four bytes each, and a sum eight
abbrev pub choice_size : Choice → ℕ
choice_size choices.No = 0
choice_size choices.Value = 4
choice_size choices.Min = 4
choice_size choices.Max = 4
choice_size choices.Sum = 8
choice_size choices.MinMax = 4 + 4
choice_size choices.MinMaxSum = 4 + 4 + 8

-- time stamps and the count take eight bytes, and a word four
abbrev pub field_size : Field → ℕ
field_size field =
    if nat_lt field.entry bus_names.WIDTH then choice_size field.choice
    else (if nat_lt field.entry names.BITS0 then 8 else 4)

abbrev pub size_of : List Field → ℕ
size_of [] = 0
size_of (field ∷ fields) = field_size field + size_of fields
