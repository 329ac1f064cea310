-- The parts of a line: names, and numbers with and without a sign, separated by one space.
use Rattle.std.specs.Prelude.{◌≡◌, ◌≢◌, ℕ, ℤ, pos, neg_ℤ, ◌+◌, ◌<◌, ◌⊎◌, ◌==◌, Bool, false, List, [], ◌∷◌, length, take, drop, position, Option, All, if◌then◌else◌}
use Rattle.std.specs.List.{position_or_len}
use Rattle.std.specs.Option.{option_map}
use Rattle.pb_words.specs.Numbers.{WritesNumber, value_of}
use Rattle.pb_words.specs.Signed.{is_uint}

-- the text writes the number: digits, perhaps after a minus sign
pub record WritesSigned (text : List ℕ) (value : ℤ) : Type 0 where
  pub digits : List ℕ
  pub size : ℕ
  pub number : WritesNumber digits size
  pub signed : ((text ≡ digits) × (value ≡ pos size)) ⊎ ((text ≡ 45 ∷ digits) × (value ≡ neg_ℤ (pos size)))

-- the text can be the name of a target: it isn't empty and has no space
pub record IsName (text : List ℕ) : Type 0 where
  pub some : 0 < length text
  pub spaceless : All (λ b. b ≢ 32) text

-- The same, computed.

-- the byte is a space
abbrev pub is_space : ℕ → Bool
is_space b = b == 32

-- what stands before the first space; all where there is none
abbrev pub before_space : List ℕ → List ℕ
before_space text = take (position_or_len is_space text) text

-- what stands after the first space; nothing where there is none
abbrev pub after_space : List ℕ → Option (List ℕ)
after_space text = option_map (λ i. drop (i + 1) text) (position is_space text)

-- digits, perhaps after a minus sign
abbrev pub is_signed : List ℕ → Bool
is_signed [] = false
is_signed (b ∷ bs) = if b == 45 then is_uint bs else is_uint (b ∷ bs)

-- the number that these write
abbrev pub signed_value : List ℕ → ℤ
signed_value [] = pos 0
signed_value (b ∷ bs) = if b == 45 then neg_ℤ (pos (value_of bs)) else pos (value_of (b ∷ bs))
