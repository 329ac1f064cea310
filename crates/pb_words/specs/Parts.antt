-- Words of private helpers: no public clause cites them.
-- The parts by which a number is read.
use Rattle.std.specs.Prelude.{◌≡◌, ◌≢◌, ⊤, ℕ, ◌≤◌, List, [], ◌∷◌, length, All, Option}
use Rattle.pb_words.specs.declared.signed.Sign.{Sign}
use Rattle.pb_words.specs.Numbers.{IsDigit}
use Rattle.pb_words.specs.Decimals.{WritesDecimal, places_of, point_text}

-- the text begins with no sign
abbrev pub BeginsNoSign : List ℕ → Type 0
BeginsNoSign [] = ⊤
BeginsNoSign (b ∷ bs) = (b ≢ 43) × (b ≢ 45)

-- the text is a decimal of this sign with these whole digits and these places
pub record IsCut (text : List ℕ) (sign : Sign) (whole places : List ℕ) : Type 0 where
  pub after_point : Option (List ℕ)
  pub same : places_of after_point ≡ places
  pub writes : WritesDecimal text (record { sign = sign; whole = whole; after_point = after_point })

-- what follows the whole digits is nothing, or a point with these places
pub record ArePlaces (rest places : List ℕ) : Type 0 where
  pub after_point : Option (List ℕ)
  pub same : places_of after_point ≡ places
  pub printed : rest ≡ point_text after_point
  pub digits : All IsDigit places
  pub nine : length places ≤ 9
