-- Whole numbers with an optional sign, between text and value.
use Rattle.std.specs.Prelude.{◌≡◌, ℕ, ◌-◌, ◌^◌, ◌==◌, ◌&&◌, nat_le, nat_lt, Bool, List, [], ◌∷◌, ◌++◌, length, ℤ, pos, neg_ℤ, FitsSigned, Option, Some, None, Result, Ok, Err, if◌then◌else◌}
use Rattle.std.specs.List.{list_all}
use Rattle.std.specs.Int.{w32}
use Rattle.pb_words.specs.declared.numbers.NumFault.{NumFault}
use Rattle.pb_words.specs.declared.numbers.NumFault.TheVariants as faults
use Rattle.pb_words.specs.declared.signed.Sign.{Sign}
use Rattle.pb_words.specs.declared.signed.Sign.TheVariants as signs
use Rattle.pb_words.specs.Numbers.{IsUint, value_of}

-- the sign as it is written
abbrev pub sign_text : Sign → List ℕ
sign_text signs.Absent = []
sign_text signs.Plus = 43 ∷ []
sign_text signs.Minus = 45 ∷ []

-- the number of this size under the sign; `-0` is 0
abbrev pub signed : Sign → ℕ → ℤ
signed signs.Absent n = pos n
signed signs.Plus n = pos n
signed signs.Minus n = neg_ℤ (pos n)

-- the largest size under the sign within signed 32 bits
abbrev pub most : Sign → ℕ
most signs.Absent = 2 ^ 31 - 1
most signs.Plus = 2 ^ 31 - 1
most signs.Minus = 2 ^ 31

-- a whole number as it is written: an optional sign, then digits
pub record Int : Type 0 where
  pub sign : Sign
  pub digits : List ℕ

-- its text
abbrev pub int_text : Int → List ℕ
int_text i = sign_text i.sign ++ i.digits

-- its value
abbrev pub int_value : Int → ℤ
int_value i = signed i.sign (value_of i.digits)

-- the text is this number as it is written
pub record WritesInt (text : List ℕ) (i : Int) : Type 0 where
  pub grammar : IsUint i.digits
  pub printed : text ≡ int_text i

-- what reading a number of signed 32 bits answers
abbrev pub ReadsInt : List ℕ → Result ℤ NumFault → Type 0
ReadsInt text (Ok z) = (i : Int) × WritesInt text i × (int_value i ≡ z)
ReadsInt text (Err faults.Malformed) = (i : Int) → ¬ (WritesInt text i)
ReadsInt text (Err faults.TooLarge) = (i : Int) × WritesInt text i × ¬ (FitsSigned w32 (int_value i))

-- The same, computed.

-- a digit
abbrev pub is_digit : ℕ → Bool
is_digit b = nat_le 48 b && nat_le b 57

-- one or more digits
abbrev pub is_uint : List ℕ → Bool
is_uint text = nat_lt 0 (length text) && list_all is_digit text

-- the sign in front of a text, and the rest
abbrev pub sign_cut : List ℕ → Sign × List ℕ
sign_cut [] = (signs.Absent, [])
sign_cut (b ∷ bs) =
    if b == 43 then (signs.Plus, bs) else (if b == 45 then (signs.Minus, bs) else (signs.Absent, b ∷ bs))

-- the whole number that the text is as it is written, if it is one
unfoldable pub int_of : List ℕ → Option Int
int_of text =
    if is_uint (sign_cut text).1
    then Some (record { sign = (sign_cut text).0; digits = (sign_cut text).1 })
    else None
