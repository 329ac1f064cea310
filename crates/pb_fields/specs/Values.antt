-- The values of fields: which text spells which raw value of a kind, why a text is refused, and what
-- is printed of a raw value.
use Rattle.std.specs.Prelude.{◌≡◌, ⊤, ℕ, ◌+◌, ◌*◌, ◌/◌, ◌^◌, ◌<◌, ◌≤◌, ◌⊎◌, Bool, if◌then◌else◌, List, [], length, ℤ, pos, negsuc, unsigned_abs, FitsSigned, Some, IsSome, slice_get, decimal}
use Rattle.std.specs.Option.{unwrap_or}
use Rattle.std.specs.Fmt.{signed_decimal}
use Rattle.std.specs.Int.{w32, w64, cast_unsigned, cast_signed}
use Rattle.pb_words.specs.declared.Refusal.{Refusal}
use Rattle.pb_words.specs.declared.Refusal.TheVariants as refusals
use Rattle.pb_words.specs.Numbers.{IsUint, WritesNumber, value_of}
use Rattle.pb_words.specs.Signed.{Int, WritesInt, int_value}
use Rattle.pb_words.specs.Decimals.{Decimal, WritesDecimal, decimal_value, canonical}
use Rattle.pb_words.specs.Hex.{hex_text}
use Rattle.pb_lut.specs.Functions.{WritesFunction}
use Rattle.pb_fields.specs.declared.kinds.FieldKind.{FieldKind}
use Rattle.pb_fields.specs.declared.kinds.FieldKind.TheVariants as kinds
use Rattle.pb_fields.specs.Labels.{label_list, bit_mux_label, position_mux_label}

-- Outputs.

-- the raw value of a bit
abbrev pub bit_raw : Bool → ℕ
bit_raw bit = if bit then 1 else 0

-- the raw value of a whole number, which is the number modulo 2^64
abbrev pub int_raw : ℤ → ℕ
int_raw value = cast_unsigned w64 value

-- Times.

-- how many billionths of the unit one tick of 8 ns is: the units are s, ms and us
abbrev pub tick_size : ℕ → ℕ
tick_size units = 8 * 1000 ^ units

-- the ticks nearest to that many billionths of the unit, a half rounded up
abbrev pub nearest_ticks : ℕ → ℕ → ℕ
nearest_ticks units billionths = (billionths + tick_size units / 2) / tick_size units

-- a time of that many billionths of the unit has these ticks; none has one below zero
abbrev pub HasTicks : ℕ → ℤ → ℕ → Type 0
HasTicks units (pos billionths) ticks = nearest_ticks units billionths ≡ ticks
HasTicks units (negsuc n) ticks = ⊥

-- a time of that many billionths of the unit is below zero, or its ticks are above the limit
abbrev pub IsNoTime : ℕ → ℕ → ℤ → Type 0
IsNoTime limit units (pos billionths) = limit < nearest_ticks units billionths
IsNoTime limit units (negsuc n) = ⊤

-- What a text means.

-- the text spells this raw value of the kind
abbrev pub Spells : FieldKind → List ℕ → ℕ → Type 0
Spells (kinds.Uint limit) text raw = WritesNumber text raw × (raw ≤ limit)
Spells kinds.Int text raw =
    (i : Int) × WritesInt text i × FitsSigned w32 (int_value i) × (int_raw (int_value i) ≡ raw)
Spells kinds.Bit text raw = WritesNumber text raw × (raw ≤ 1)
Spells (kinds.Enum labels) text raw = slice_get (label_list labels) raw ≡ Some text
Spells kinds.BitMux text raw = bit_mux_label raw ≡ Some text
Spells kinds.PosMux text raw = position_mux_label raw ≡ Some text
Spells kinds.Decimal text raw =
    (d : Decimal) × WritesDecimal text d × (length d.whole ≤ 9) × (cast_unsigned w64 (decimal_value d) ≡ raw)
Spells (kinds.Time limit units) text raw =
    (d : Decimal) × WritesDecimal text d × (length d.whole ≤ 18) × HasTicks units (decimal_value d) raw × (raw ≤ limit)
Spells kinds.Lut text raw = WritesFunction text raw
Spells kinds.Action text raw = raw ≡ 0
Spells kinds.Text text raw = ⊥

-- the text isn't in the grammar of the kind
abbrev pub IsMalformed : FieldKind → List ℕ → Type 0
IsMalformed (kinds.Uint limit) text = ¬ (IsUint text)
IsMalformed kinds.Int text = (i : Int) → ¬ (WritesInt text i)
IsMalformed kinds.Bit text = ¬ (IsUint text)
IsMalformed (kinds.Enum labels) text = ⊥
IsMalformed kinds.BitMux text = ⊥
IsMalformed kinds.PosMux text = ⊥
IsMalformed kinds.Decimal text = (d : Decimal) → ¬ (WritesDecimal text d)
IsMalformed (kinds.Time limit units) text = (d : Decimal) → ¬ (WritesDecimal text d)
IsMalformed kinds.Lut text = (n : ℕ) → ¬ (WritesFunction text n)
IsMalformed kinds.Action text = ⊥
IsMalformed kinds.Text text = ⊥

-- the text is in the grammar of the kind, and its number isn't in the range
abbrev pub IsOutOfRange : FieldKind → List ℕ → Type 0
IsOutOfRange (kinds.Uint limit) text = IsUint text × (limit < value_of text)
IsOutOfRange kinds.Int text = (i : Int) × WritesInt text i × ¬ (FitsSigned w32 (int_value i))
IsOutOfRange kinds.Bit text = IsUint text × (1 < value_of text)
IsOutOfRange (kinds.Enum labels) text = ⊥
IsOutOfRange kinds.BitMux text = ⊥
IsOutOfRange kinds.PosMux text = ⊥
IsOutOfRange kinds.Decimal text = (d : Decimal) × WritesDecimal text d × (9 < length d.whole)
IsOutOfRange (kinds.Time limit units) text =
    (d : Decimal) × WritesDecimal text d × ((18 < length d.whole) ⊎ IsNoTime limit units (decimal_value d))
IsOutOfRange kinds.Lut text = ⊥
IsOutOfRange kinds.Action text = ⊥
IsOutOfRange kinds.Text text = ⊥

-- the text is none of the labels of the kind
abbrev pub IsUnknown : FieldKind → List ℕ → Type 0
IsUnknown (kinds.Uint limit) text = ⊥
IsUnknown kinds.Int text = ⊥
IsUnknown kinds.Bit text = ⊥
IsUnknown (kinds.Enum labels) text = (raw : ℕ) → ¬ (slice_get (label_list labels) raw ≡ Some text)
IsUnknown kinds.BitMux text = (raw : ℕ) → ¬ (bit_mux_label raw ≡ Some text)
IsUnknown kinds.PosMux text = (raw : ℕ) → ¬ (position_mux_label raw ≡ Some text)
IsUnknown kinds.Decimal text = ⊥
IsUnknown (kinds.Time limit units) text = ⊥
IsUnknown kinds.Lut text = ⊥
IsUnknown kinds.Action text = ⊥
IsUnknown kinds.Text text = ⊥

-- the text spells nothing of the kind, and this is why
abbrev pub Refuses : FieldKind → List ℕ → Refusal → Type 0
Refuses kind text refusals.MalformedValue = IsMalformed kind text
Refuses kind text refusals.ValueOutOfRange = IsOutOfRange kind text
Refuses kind text refusals.UnknownLabel = IsUnknown kind text
Refuses kind text refusal = ⊥

-- What is printed.

-- what is printed of the raw value; of the function of a lookup table it is the number
abbrev pub shown : FieldKind → ℕ → List ℕ
shown (kinds.Uint limit) raw = decimal raw
shown kinds.Int raw = signed_decimal (cast_signed w64 raw)
shown kinds.Bit raw = decimal raw
shown (kinds.Enum labels) raw = unwrap_or (slice_get (label_list labels) raw) []
shown kinds.BitMux raw = unwrap_or (bit_mux_label raw) []
shown kinds.PosMux raw = unwrap_or (position_mux_label raw) []
shown kinds.Decimal raw = canonical (cast_signed w64 raw)
shown (kinds.Time limit units) raw = canonical (pos (raw * tick_size units))
shown kinds.Lut raw = hex_text raw
shown kinds.Action raw = []
shown kinds.Text raw = []

-- the raw value is in the range of the kind
abbrev pub IsRaw : FieldKind → ℕ → Type 0
IsRaw (kinds.Uint limit) raw = raw ≤ limit
IsRaw kinds.Int raw = (raw < 2 ^ 64) × FitsSigned w32 (cast_signed w64 raw)
IsRaw kinds.Bit raw = raw ≤ 1
IsRaw (kinds.Enum labels) raw = raw < length (label_list labels)
IsRaw kinds.BitMux raw = IsSome (bit_mux_label raw)
IsRaw kinds.PosMux raw = IsSome (position_mux_label raw)
IsRaw kinds.Decimal raw = (raw < 2 ^ 64) × (unsigned_abs (cast_signed w64 raw) < 10 ^ 18)
IsRaw (kinds.Time limit units) raw = raw ≤ limit
IsRaw kinds.Lut raw = raw < 2 ^ 32
IsRaw kinds.Action raw = raw ≡ 0
IsRaw kinds.Text raw = ⊥

-- a text can be a value of the kind
abbrev pub IsSpelledKind : FieldKind → Type 0
IsSpelledKind (kinds.Time limit units) = units ≤ 2
IsSpelledKind kinds.Text = ⊥
IsSpelledKind kind = ⊤

-- a raw value of the kind can be printed
abbrev pub IsShownKind : FieldKind → Type 0
IsShownKind (kinds.Time limit units) = units ≤ 2
IsShownKind kinds.Action = ⊥
IsShownKind kinds.Text = ⊥
IsShownKind kind = ⊤
