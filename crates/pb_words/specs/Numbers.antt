-- The numbers of scripts and control lines, between text and value.
use Rattle.std.specs.Prelude.{◌≡◌, ℕ, ◌+◌, ◌-◌, ◌*◌, ◌<◌, ◌≤◌, List, [], ◌∷◌, length, All, Result, Ok, Err}
use Rattle.pb_words.specs.declared.numbers.NumFault.{NumFault}
use Rattle.pb_words.specs.declared.numbers.NumFault.TheVariants as faults

-- a decimal digit, `0` to `9`
abbrev pub IsDigit : ℕ → Type 0
IsDigit b = (48 ≤ b) × (b ≤ 57)

-- the grammar of a number without a sign: one or more digits
pub record IsUint (text : List ℕ) : Type 0 where
  pub some : 0 < length text
  pub digits : All IsDigit text

-- the number that these digits write where they follow the digits of n
abbrev pub value_after : ℕ → List ℕ → ℕ
value_after n [] = n
value_after n (b ∷ bs) = value_after (10 * n + (b - 48)) bs

-- the number that the digits write; leading zeros change nothing
abbrev pub value_of : List ℕ → ℕ
value_of text = value_after 0 text

-- the text is one of those that write the number n
pub record WritesNumber (text : List ℕ) (n : ℕ) : Type 0 where
  pub grammar : IsUint text
  pub value : value_of text ≡ n

-- what reading a number up to the limit answers
abbrev pub ReadsUint : ℕ → List ℕ → Result ℕ NumFault → Type 0
ReadsUint limit text (Ok n) = WritesNumber text n × (n ≤ limit)
ReadsUint limit text (Err faults.Malformed) = ¬ (IsUint text)
ReadsUint limit text (Err faults.TooLarge) = IsUint text × (limit < value_of text)
