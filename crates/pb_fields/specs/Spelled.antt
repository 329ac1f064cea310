-- What a text means, computed: the raw value that it spells, or why it spells none.
use Rattle.std.specs.Prelude.{ℕ, nat_eq, nat_le, List, length, ℤ, pos, negsuc, Option, Some, Result, Ok, Err, codes, position, if◌then◌else◌}
use Rattle.std.specs.Cmp.Lexicographic.{pointwise}
use Rattle.std.specs.Option.{option_map_or}
use Rattle.std.specs.Int.{w64, cast_unsigned}
use Rattle.pb_words.specs.declared.Refusal.{Refusal}
use Rattle.pb_words.specs.declared.Refusal.TheVariants as refusals
use Rattle.pb_words.specs.Numbers.{value_of}
use Rattle.pb_words.specs.Signed.{Int, int_value, int_of, is_uint, most}
use Rattle.pb_words.specs.Decimals.{Decimal, decimal_value, decimal_of}
use Rattle.pb_lut.specs.Computed.{function_of}
use Rattle.pb_names.specs.declared.bit_bus.TheConstants as bit_bus
use Rattle.pb_names.specs.declared.position_bus.TheConstants as position_bus
use Rattle.pb_fields.specs.declared.kinds.FieldKind.{FieldKind}
use Rattle.pb_fields.specs.declared.kinds.FieldKind.TheVariants as kinds
use Rattle.pb_fields.specs.Labels.{label_list, bit_names, position_names}
use Rattle.pb_fields.specs.Values.{nearest_ticks}

-- a raw value within the limit
abbrev pub within : ℕ → ℕ → Result ℕ Refusal
within limit raw = if nat_le raw limit then Ok raw else Err refusals.ValueOutOfRange

abbrev pub uint_spelled : ℕ → List ℕ → Result ℕ Refusal
uint_spelled limit text = if is_uint text then within limit (value_of text) else Err refusals.MalformedValue

abbrev pub int_spelled : Int → Result ℕ Refusal
int_spelled i =
    if nat_le (value_of i.digits) (most i.sign)
    then Ok (cast_unsigned w64 (int_value i))
    else Err refusals.ValueOutOfRange

-- the label that the text is has this raw value
abbrev pub known : Option ℕ → Result ℕ Refusal
known raw = option_map_or (λ found. Ok found) raw (Err refusals.UnknownLabel)

-- the place of the text in a list of labels
abbrev pub place_in : List (List ℕ) → List ℕ → Option ℕ
place_in labels text = position (λ label. pointwise nat_eq label text) labels

-- a label that stands beside the list of labels
abbrev pub or_else_in : List ℕ → ℕ → Option ℕ → List ℕ → Option ℕ
or_else_in label raw others text = if pointwise nat_eq label text then Some raw else others

abbrev pub decimal_spelled : Decimal → Result ℕ Refusal
decimal_spelled d =
    if nat_le (length d.whole) 9 then Ok (cast_unsigned w64 (decimal_value d)) else Err refusals.ValueOutOfRange

-- the ticks of that many billionths of the unit
abbrev pub ticks_spelled : ℕ → ℕ → ℤ → Result ℕ Refusal
ticks_spelled limit units (pos billionths) = within limit (nearest_ticks units billionths)
ticks_spelled limit units (negsuc n) = Err refusals.ValueOutOfRange

abbrev pub time_spelled : ℕ → ℕ → Decimal → Result ℕ Refusal
time_spelled limit units d =
    if nat_le (length d.whole) 18 then ticks_spelled limit units (decimal_value d) else Err refusals.ValueOutOfRange

-- what is made of something that was read, where it was
abbrev pub read_as : {A : Type 0} → (A → Result ℕ Refusal) → Option A → Result ℕ Refusal
read_as make read = option_map_or make read (Err refusals.MalformedValue)

-- what a text means as a value of the kind
unfoldable pub spelled : FieldKind → List ℕ → Result ℕ Refusal
spelled (kinds.Uint limit) text = uint_spelled limit text
spelled kinds.Int text = read_as int_spelled (int_of text)
spelled kinds.Bit text = uint_spelled 1 text
spelled (kinds.Enum labels) text = known (place_in (label_list labels) text)
spelled kinds.BitMux text =
    known
    (or_else_in (codes "ZERO") bit_bus.ZERO (or_else_in (codes "ONE") bit_bus.ONE (place_in bit_names text) text) text)
spelled kinds.PosMux text = known (or_else_in (codes "ZERO") position_bus.ZERO (place_in position_names text) text)
spelled kinds.Decimal text = read_as decimal_spelled (decimal_of text)
spelled (kinds.Time limit units) text = read_as (time_spelled limit units) (decimal_of text)
spelled kinds.Lut text = read_as (λ n. Ok n) (function_of text)
spelled kinds.Action text = Ok 0
-- no text is a value of this kind
spelled kinds.Text text = Err refusals.MalformedValue
