-- A text is cut into its sign and its digits in one way, and so read in one way.
use Rattle.std.proofs.Common.{◌≡◌, ℕ, zero, suc, ◌<◌, ◌≤◌, List, [], ◌∷◌, ◌++◌, All, ℤ, FitsSigned, Ok, Err, sym, ap, subst, ◌∙◌, arith}
use Rattle.std.specs.Int.{w32}
use Rattle.std.proofs.lemmas.List.Elements.{All-head}
use Rattle.pb_words.specs.declared.numbers.NumFault.{NumFault}
use Rattle.pb_words.specs.declared.numbers.NumFault.TheVariants as faults
use Rattle.pb_words.specs.declared.signed.Sign.{Sign}
use Rattle.pb_words.specs.declared.signed.Sign.TheVariants as signs
use Rattle.pb_words.specs.Numbers.{IsUint, IsDigit, ReadsUint, WritesNumber, value_of}
use Rattle.pb_words.specs.Signed.{ReadsInt, sign_text, signed, most}
use Rattle.pb_words.specs.Parts.{BeginsNoSign}

-- digits are no sign
pub begins_no_sign : (ds : List ℕ) → All IsDigit ds → BeginsNoSign ds
begins_no_sign [] u = tt
begins_no_sign (b ∷ bs) u =
    let h : IsDigit b = All-head IsDigit b bs u in
    (λ e. omega (arith, h.0, e), λ e. omega (arith, h.0, e))

-- a number up to the largest size fits, and one past it doesn't
pub fits_most : (sign : Sign) (n : ℕ) → n ≤ most sign → FitsSigned w32 (signed sign n)
fits_most signs.Absent n h = record { sfits = omega arith }
fits_most signs.Plus n h = record { sfits = omega arith }
fits_most signs.Minus zero h = record { sfits = omega arith }
fits_most signs.Minus (suc n) h = record { sfits = omega arith }

pub past_most : (sign : Sign) (n : ℕ) → most sign < n → ¬ (FitsSigned w32 (signed sign n))
past_most signs.Absent n h f = omega (arith, f.sfits)
past_most signs.Plus n h f = omega (arith, f.sfits)
past_most signs.Minus zero h f = omega arith
past_most signs.Minus (suc n) h f = omega (arith, f.sfits)

module _ (text digits : List ℕ) (sign : Sign) (cut : text ≡ sign_text sign ++ digits) where
  -- the number of the digits under the sign
  pub reads : (n : ℕ) (z : ℤ) → WritesNumber digits n → z ≡ signed sign n → ReadsInt text (Ok z)
  reads n z w e =
      (record { sign = sign; digits = digits }, record { grammar = w.grammar; printed = cut }, ap (signed sign) w.value ∙ sym e)

  -- the fault of the digits is the fault of the text
  pub reads_fault : (e : NumFault) (limit : ℕ) → limit ≡ most sign → ((s : Sign) (r : List ℕ) → text ≡ sign_text s ++ r → BeginsNoSign r → (s ≡ sign) × (r ≡ digits)) → ReadsUint limit digits (Err e) → ReadsInt text (Err e)
  reads_fault faults.Malformed limit l only h = λ i w.
      h (subst IsUint (only i.sign i.digits w.printed (begins_no_sign i.digits w.grammar.digits)).1 w.grammar)
  reads_fault faults.TooLarge limit l only h =
      (record { sign = sign; digits = digits }, record { grammar = h.0; printed = cut }, past_most sign (value_of digits) (omega arith))
