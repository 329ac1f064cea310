-- Numbers in a line, by printing and computed.
use Rattle.std.proofs.Common.{◌≡◌, ℕ, Bool, true, false, cond, eqb, List, [], ◌∷◌, get_or, refl, sym, ap, subst, ◌∙◌, inl, inr, arith, ℤ, pos, neg_ℤ}
use Rattle.std.proofs.lemmas.Bool.{ne_eqb, eqb-true, false≢true}
use Rattle.pb_words.specs.Numbers.{IsDigit, IsUint, WritesNumber, value_of}
use Rattle.pb_words.specs.Signed.{is_uint}
use Rattle.pb_words.proofs.ComputedLemmas.{uint_decides}
use Rattle.pb_stim.specs.Texts.{WritesSigned, is_signed, signed_value}
use Rattle.pb_stim.proofs.SpaceLemmas.{Spaceless}

-- digits write the number that is computed
pub number_is : (text : List ℕ) → is_uint text ≡ true → WritesNumber text (value_of text)
number_is text h = record { grammar = (uint_decides text).0 h; value = refl }

-- and a number that is written is computed
pub number_read : (text : List ℕ) (n : ℕ) → WritesNumber text n → is_uint text ≡ true
number_read text n w = (uint_decides text).1 w.grammar

-- digits have no space
pub digits_spaceless : (text : List ℕ) → IsUint text → Spaceless text
digits_spaceless text u = λ k d h e. let digit : IsDigit (get_or text k d) = u.digits k d h in omega (arith, digit.0, e)

-- digits begin with a digit
pub first_digit : (b : ℕ) (bs : List ℕ) → IsUint (b ∷ bs) → IsDigit b
first_digit b bs u = u.digits 0 0 (omega arith)

-- a number with a sign
pub signed_is : (text : List ℕ) → is_signed text ≡ true → WritesSigned text (signed_value text)
signed_is [] h = absurd (false≢true h)
signed_is (b ∷ bs) h = by_sign (eqb b 45) refl h
  where
    by_sign : (t : Bool) → eqb b 45 ≡ t → cond t (is_uint bs) (is_uint (b ∷ bs)) ≡ true → WritesSigned (b ∷ bs) (cond t (neg_ℤ (pos (value_of bs))) (pos (value_of (b ∷ bs))))
    by_sign true e u = record { digits = bs; size = value_of bs; number = number_is bs u; signed = inr (ap (λ x. x ∷ bs) (eqb-true b 45 e), refl) }
    by_sign false e u = record { digits = b ∷ bs; size = value_of (b ∷ bs); number = number_is (b ∷ bs) u; signed = inl (refl, refl) }

plain_read : (text : List ℕ) (n : ℕ) → WritesNumber text n → (is_signed text ≡ true) × (signed_value text ≡ pos n)
plain_read [] n w = absurd (omega (arith, w.grammar.some))
plain_read (b ∷ bs) n w =
    let digit : IsDigit b = first_digit b bs w.grammar in
    let other : eqb b 45 ≡ false = ne_eqb b 45 (λ e. omega (arith, digit.0, e)) in
    (ap (λ t. cond t (is_uint bs) (is_uint (b ∷ bs))) other ∙ number_read (b ∷ bs) n w, ap (λ t. cond t (neg_ℤ (pos (value_of bs))) (pos (value_of (b ∷ bs)))) other ∙ ap pos w.value)

pub signed_read : (text : List ℕ) (value : ℤ) → WritesSigned text value → (is_signed text ≡ true) × (signed_value text ≡ value)
signed_read text value w =
    elim w.signed [
      | inl p ↦
          let r = plain_read w.digits w.size w.number in
          (subst (λ t. is_signed t ≡ true) (sym p.0) r.0, ap signed_value p.0 ∙ (r.1 ∙ sym p.1))
      | inr m ↦
          (subst (λ t. is_signed t ≡ true) (sym m.0) (number_read w.digits w.size w.number), ap signed_value m.0 ∙ (ap (λ n. neg_ℤ (pos n)) w.number.value ∙ sym m.1))
    ]
