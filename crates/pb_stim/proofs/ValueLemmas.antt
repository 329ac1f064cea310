-- The value that is read of a text, and the one that is computed.
use Rattle.std.proofs.Common.{◌≡◌, ℕ, true, false, cond, List, sym, ap, subst, ◌∙◌, inl, inr, Some, None, Ok, Err, ℤ, pos, neg_ℤ, FitsSigned}
use Rattle.std.specs.Int.{w32}
use Rattle.std.proofs.lemmas.Bool.{cases_Bool}
use Rattle.pb_words.specs.Signed.{Int, WritesInt, int_value, ReadsInt}
use Rattle.pb_words.specs.declared.numbers.NumFault.{NumFault}
use Rattle.pb_words.specs.declared.numbers.NumFault.TheVariants as faults
use Rattle.pb_words.specs.declared.signed.Sign.TheVariants as signs
use Rattle.pb_words.proofs.SignedReadBack.{int_once}
use Rattle.pb_stim.specs.declared.causes.Cause.TheVariants as causes
use Rattle.pb_stim.specs.Texts.{WritesSigned, is_signed, signed_value}
use Rattle.pb_stim.specs.Inputs.{input_of}
use Rattle.pb_stim.specs.Faults.{fits_input, level_cause}
use Rattle.pb_stim.proofs.NumberLemmas.{signed_is}
use Rattle.pb_stim.proofs.InputLemmas.{fits_bits}

-- a number with a sign, as pb_words has it
any_sign : (text : List ℕ) (value : ℤ) → WritesSigned text value → (i : Int) × WritesInt text i × (int_value i ≡ value)
any_sign text value w =
    elim w.signed [
      | inl p ↦ (record { sign = signs.Absent; digits = w.digits }, record { grammar = w.number.grammar; printed = p.0 }, ap pos w.number.value ∙ sym p.1)
      | inr m ↦ (record { sign = signs.Minus; digits = w.digits }, record { grammar = w.number.grammar; printed = m.0 }, ap (λ n. neg_ℤ (pos n)) w.number.value ∙ sym m.1)
    ]

-- what is read is the value that is computed
pub value_read : (text : List ℕ) (z : ℤ) → is_signed text ≡ true → ReadsInt text (Ok z) → z ≡ signed_value text
value_read text z h r =
    let i = any_sign text (signed_value text) (signed_is text h) in
    sym r.2 ∙ (ap int_value (int_once text r.0 i.0 r.1 i.1) ∙ i.2)

-- and where none is read it has no 32 bits
pub value_not_read : (text : List ℕ) (e : NumFault) → is_signed text ≡ true → ReadsInt text (Err e) → ¬ (FitsSigned w32 (signed_value text))
value_not_read text faults.Malformed h r fits =
    let i = any_sign text (signed_value text) (signed_is text h) in
    r i.0 i.1
value_not_read text faults.TooLarge h r fits =
    let i = any_sign text (signed_value text) (signed_is text h) in
    r.2 (subst (FitsSigned w32) (sym (ap int_value (int_once text r.0 i.0 r.1 i.1) ∙ i.2)) fits)

-- the cause, where the input is known
pub cause_unfit : (target : List ℕ) (input : ℕ) (value : ℤ) → input_of target ≡ Some input → fits_input input value ≡ false → level_cause (input_of target) value ≡ Some causes.ValueOutOfRange
cause_unfit target input value known unfit =
    ap (λ o. level_cause o value) known ∙ ap (λ t. cond t None (Some causes.ValueOutOfRange)) unfit

pub cause_none : (target : List ℕ) (input : ℕ) (value : ℤ) → input_of target ≡ Some input → fits_input input value ≡ true → level_cause (input_of target) value ≡ None
cause_none target input value known fits =
    ap (λ o. level_cause o value) known ∙ ap (λ t. cond t None (Some causes.ValueOutOfRange)) fits

-- a value without 32 bits fits no input
pub unfit : (input : ℕ) (value : ℤ) → ¬ (FitsSigned w32 value) → fits_input input value ≡ false
unfit input value none =
    elim (cases_Bool (fits_input input value)) [
      | inl fits ↦ absurd (none (fits_bits input value fits))
      | inr other ↦ other
    ]
