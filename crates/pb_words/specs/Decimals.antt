-- Decimals with at most nine places after the point, between text and value, and the one text of
-- each that is written.
use Rattle.std.specs.Prelude.{◌≡◌, ℕ, zero, suc, ◌+◌, ◌-◌, ◌*◌, ◌/◌, ◌%◌, ◌^◌, ◌<◌, ◌≤◌, ◌==◌, ◌&&◌, not, nat_eq, nat_le, nat_lt, Bool, if◌then◌else◌, List, [], ◌∷◌, ◌++◌, length, replicate, take, drop, All, ℤ, pos, negsuc, Option, Some, None, Result, Ok, Err, decimal}
use Rattle.std.specs.List.{list_all, position_or_len}
use Rattle.std.specs.Cmp.Lexicographic.{pointwise}
use Rattle.pb_words.specs.declared.numbers.NumFault.{NumFault}
use Rattle.pb_words.specs.declared.numbers.NumFault.TheVariants as faults
use Rattle.pb_words.specs.declared.signed.Sign.{Sign}
use Rattle.pb_words.specs.declared.decimals.Decimal9.{Decimal9}
use Rattle.pb_words.specs.Numbers.{IsDigit, value_of}
use Rattle.pb_words.specs.Signed.{sign_text, signed, is_digit, sign_cut}

-- a decimal as it is written: an optional sign, whole digits, and optionally a point with places
pub record Decimal : Type 0 where
  pub sign : Sign
  pub whole : List ℕ
  pub after_point : Option (List ℕ)

-- the point and the places, as they are written
abbrev pub point_text : Option (List ℕ) → List ℕ
point_text None = []
point_text (Some places) = 46 ∷ places

-- the digits after the point, none where there is no point
abbrev pub places_of : Option (List ℕ) → List ℕ
places_of None = []
places_of (Some places) = places

-- its text
abbrev pub decimal_text : Decimal → List ℕ
decimal_text d = sign_text d.sign ++ (d.whole ++ point_text d.after_point)

-- the digits, filled up with zeros to nine
abbrev pub nine_places : List ℕ → List ℕ
nine_places places = places ++ replicate (9 - length places) 48

-- its value, in billionths
abbrev pub decimal_value : Decimal → ℤ
decimal_value d =
    signed d.sign (value_of d.whole * 10 ^ 9 + value_of (nine_places (places_of d.after_point)))

-- a decimal in the grammar: at least one digit in all, and at most nine after the point
pub record IsDecimal (d : Decimal) : Type 0 where
  pub whole : All IsDigit d.whole
  pub places : All IsDigit (places_of d.after_point)
  pub some : 0 < length d.whole + length (places_of d.after_point)
  pub nine : length (places_of d.after_point) ≤ 9

-- the text is this decimal as it is written
pub record WritesDecimal (text : List ℕ) (d : Decimal) : Type 0 where
  pub grammar : IsDecimal d
  pub printed : text ≡ decimal_text d

-- what reading a decimal of at most that many whole digits answers
abbrev pub ReadsDecimalUpTo : ℕ → List ℕ → Result Decimal9 NumFault → Type 0
ReadsDecimalUpTo most text (Ok v) =
    (d : Decimal) × WritesDecimal text d × (length d.whole ≤ most) × (decimal_value d ≡ v.billionths)
ReadsDecimalUpTo most text (Err faults.Malformed) = (d : Decimal) → ¬ (WritesDecimal text d)
ReadsDecimalUpTo most text (Err faults.TooLarge) = (d : Decimal) × WritesDecimal text d × (most < length d.whole)

-- what reading a decimal of at most 18 whole digits answers
abbrev pub ReadsDecimal : List ℕ → Result Decimal9 NumFault → Type 0
ReadsDecimal text result = ReadsDecimalUpTo 18 text result

-- the digits of n, which is below 10 ^ k, in k places, as far as they aren't all zeros
unfoldable pub places : ℕ → ℕ → List ℕ
places zero n = []
places (suc k) n = if n == 0 then [] else (48 + n / 10 ^ k) ∷ places k (n % 10 ^ k)

-- the point and the places of that many billionths, nothing where there are none
abbrev pub fraction : ℕ → List ℕ
fraction n = if n == 0 then [] else 46 ∷ places 9 n

-- the canonical text of a decimal that isn't below zero
abbrev pub canonical_size : ℕ → List ℕ
canonical_size n = decimal (n / 10 ^ 9) ++ fraction (n % 10 ^ 9)

-- the canonical text of a decimal, given in billionths: no zeros before the whole digits or after
-- the last place, no point without places, and `-` only below zero
unfoldable pub canonical : ℤ → List ℕ
canonical (pos n) = canonical_size n
canonical (negsuc n) = 45 ∷ canonical_size (suc n)

-- The same, computed.

-- the digits in front of a text
abbrev pub digits_in : List ℕ → List ℕ
digits_in text = take (position_or_len (λ b. not (is_digit b)) text) text

-- what follows them
abbrev pub behind_digits : List ℕ → List ℕ
behind_digits text = drop (position_or_len (λ b. not (is_digit b)) text) text

-- the places after the point, where there is one
abbrev pub places_behind : List ℕ → Option (List ℕ)
places_behind [] = None
places_behind (point ∷ places) = Some places

-- the decimal that the text is, where it is one
abbrev pub decimal_cut : List ℕ → Decimal
decimal_cut text =
    let rest = (sign_cut text).1 in
    record { sign = (sign_cut text).0; whole = digits_in rest; after_point = places_behind (behind_digits rest) }

-- the decimal is in the grammar
abbrev pub is_decimal : Decimal → Bool
is_decimal d =
    list_all is_digit d.whole && list_all is_digit (places_of d.after_point)
    && nat_lt 0 (length d.whole + length (places_of d.after_point))
    && nat_le (length (places_of d.after_point)) 9

-- the decimal that the text is as it is written, if it is one
unfoldable pub decimal_of : List ℕ → Option Decimal
decimal_of text =
    if is_decimal (decimal_cut text) && pointwise nat_eq (decimal_text (decimal_cut text)) text
    then Some (decimal_cut text)
    else None
