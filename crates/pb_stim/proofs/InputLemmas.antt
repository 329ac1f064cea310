-- The names of the inputs and their numbers, and the values that they may have.
use Rattle.std.proofs.Common.{◌≡◌, ℕ, ◌+◌, ◌<◌, ◌≤◌, ◌^◌, ◌⊎◌, Bool, true, false, cond, not, nat_eq, ltb, ◌||◌, List, [], ◌∷◌, length, map, get_or, position, slice_get, zero, suc, refl, sym, ap, subst, ◌∙◌, inl, inr, arith, Option, Some, None, Bor, ℤ, pos, negsuc, FitsSigned, lit<}
use Rattle.std.specs.Int.{w32}
use Rattle.std.specs.Ordering.{int_eq}
use Rattle.std.specs.List.{position_or_len}
use Rattle.std.specs.Cmp.Lexicographic.{pointwise, bytes_decides}
use Rattle.std.proofs.lemmas.Bool.{ltb-true, ltb-false, lt-ltb, le-ltb, cases_Bool}
use Rattle.std.proofs.lemmas.Bool.Decides.{Decides-int_eq}
use Rattle.std.proofs.lemmas.Option.{none-some, cond_some, slice_get-get_or, get_or_from_slice_get, slice_get_within}
use Rattle.std.proofs.lemmas.List.{length-map}
use Rattle.std.proofs.lemmas.List.Sums.{passes_at_first}
use Rattle.pb_stim.specs.declared.causes.Cause.TheVariants as causes
use Rattle.pb_stim.specs.Inputs.{inputs, input_of, MayHave}
use Rattle.pb_stim.specs.Answers.{input_name}
use Rattle.pb_stim.specs.Faults.{is_level, is_position, fits_input, level_cause}

-- Names.

-- a name is looked for behind references
first_in : (xs : List (Bor (List ℕ))) (target : List ℕ) → position_or_len (λ name. pointwise nat_eq name.now target) xs ≡ position_or_len (λ name. pointwise nat_eq name target) (map (λ name. name.now) xs)
first_in [] target = refl
first_in (x ∷ xs) target = ap (λ n. cond (not (pointwise nat_eq x.now target)) (1 + n) 0) (first_in xs target)

pub place_in : (xs : List (Bor (List ℕ))) (target : List ℕ) → position (λ name. pointwise nat_eq name.now target) xs ≡ position (λ name. pointwise nat_eq name target) (map (λ name. name.now) xs)
place_in xs target =
    ap (λ n. cond {A = Option ℕ} (ltb n (length xs)) (Some n) None) (first_in xs target)
    ∙ ap (λ m. cond {A = Option ℕ} (ltb (position_or_len (λ name. pointwise nat_eq name target) (map (λ name. name.now) xs)) m) (Some (position_or_len (λ name. pointwise nat_eq name target) (map (λ name. name.now) xs))) None) (sym (length-map xs (λ name. name.now)))

-- what is found has the name
found_in : (xs : List (List ℕ)) (target : List ℕ) (n : ℕ) → position (λ name. pointwise nat_eq name target) xs ≡ Some n → slice_get xs n ≡ Some target
found_in xs target n e =
    let p : List ℕ → Bool = λ name. pointwise nat_eq name target in
    let k : ℕ = position_or_len p xs in
    let both = cond_some (ltb k (length xs)) k n e in
    let within : k < length xs = ltb-true k (length xs) both.0 in
    let same : get_or xs k [] ≡ target = (bytes_decides (get_or xs k []) target).0 (passes_at_first p xs [] within) in
    subst (λ i. slice_get xs i ≡ Some target) both.1 (slice_get-get_or xs k [] within ∙ ap (λ (x : List ℕ). Some x) same)

pub named_input : (target : List ℕ) (n : ℕ) → input_of target ≡ Some n → slice_get inputs n ≡ Some target
named_input target n e = found_in inputs target n e

pub input_name_is : (target : List ℕ) (n : ℕ) → input_of target ≡ Some n → input_name n ≡ target
input_name_is target n e = get_or_from_slice_get inputs n target [] (named_input target n e)

-- each input is found by its name
pub input_back : (n : ℕ) → n < 10 → input_of (input_name n) ≡ Some n
unfolding inputs
input_back zero h = refl
input_back (suc zero) h = refl
input_back (suc (suc zero)) h = refl
input_back (suc (suc (suc zero))) h = refl
input_back (suc (suc (suc (suc zero)))) h = refl
input_back (suc (suc (suc (suc (suc zero))))) h = refl
input_back (suc (suc (suc (suc (suc (suc zero)))))) h = refl
input_back (suc (suc (suc (suc (suc (suc (suc zero))))))) h = refl
input_back (suc (suc (suc (suc (suc (suc (suc (suc zero)))))))) h = refl
input_back (suc (suc (suc (suc (suc (suc (suc (suc (suc zero))))))))) h = refl
input_back (suc (suc (suc (suc (suc (suc (suc (suc (suc (suc n)))))))))) h = absurd (omega (arith, h))

ten_inputs : length inputs ≡ 10
unfolding inputs
ten_inputs = refl

-- a name that stands in the list is found where it stands
pub input_found : (target : List ℕ) (n : ℕ) → slice_get inputs n ≡ Some target → input_of target ≡ Some n
input_found target n e =
    let within : n < 10 = omega (arith, slice_get_within inputs n target e, ten_inputs) in
    ap input_of (sym (get_or_from_slice_get inputs n target [] e)) ∙ input_back n within

-- Values.

-- tests of values
level_is : (value : ℤ) → is_level value ≡ true → (value ≡ pos 0) ⊎ (value ≡ pos 1)
level_is value h =
    elim (cases_Bool (int_eq value (pos 0))) [
      | inl zero_is ↦ inl ((Decides-int_eq value (pos 0)).0 zero_is)
      | inr other ↦ inr ((Decides-int_eq value (pos 1)).0 (sym (ap (λ t. t || int_eq value (pos 1)) other) ∙ h))
    ]

is_level_of : (value : ℤ) → (value ≡ pos 0) ⊎ (value ≡ pos 1) → is_level value ≡ true
is_level_of value (inl e) = ap is_level e
is_level_of value (inr e) = ap is_level e

position_is : (value : ℤ) → is_position value ≡ true → FitsSigned w32 value
position_is (pos n) h = record { sfits = ltb-true n (2 ^ 31) h }
position_is (negsuc n) h = record { sfits = ltb-true n (2 ^ 31) h }

pub is_position_of : (value : ℤ) → FitsSigned w32 value → is_position value ≡ true
is_position_of (pos n) f = lt-ltb n (2 ^ 31) (omega (arith, f.sfits))
is_position_of (negsuc n) f = lt-ltb n (2 ^ 31) (omega (arith, f.sfits))

-- the rule of a row
by_number : (n : ℕ) (value : ℤ) → fits_input n value ≡ true → ((n < 6) × ((value ≡ pos 0) ⊎ (value ≡ pos 1))) ⊎ ((6 ≤ n) × FitsSigned w32 value)
by_number n value h =
    elim (cases_Bool (ltb n 6)) [
      | inl low ↦ inl (ltb-true n 6 low, level_is value (sym (ap (λ t. cond t (is_level value) (is_position value)) low) ∙ h))
      | inr high ↦ inr (ltb-false n 6 high, position_is value (sym (ap (λ t. cond t (is_level value) (is_position value)) high) ∙ h))
    ]

-- whatever an input may have has signed 32 bits
bits_of : (value : ℤ) → (value ≡ pos 0) ⊎ (value ≡ pos 1) → FitsSigned w32 value
bits_of value (inl e) = subst (FitsSigned w32) (sym e) (record { sfits = lit< tt })
bits_of value (inr e) = subst (FitsSigned w32) (sym e) (record { sfits = lit< tt })

pub fits_bits : (n : ℕ) (value : ℤ) → fits_input n value ≡ true → FitsSigned w32 value
fits_bits n value h =
    elim (by_number n value h) [ inl low ↦ bits_of value low.1 | inr high ↦ high.1 ]

-- a TTL input that fits has 0 or 1
pub low_level : (n : ℕ) (value : ℤ) → fits_input n value ≡ true → n < 6 → (value ≡ pos 0) ⊎ (value ≡ pos 1)
low_level n value h low =
    elim (by_number n value h) [ inl l ↦ l.1 | inr high ↦ absurd (omega (arith, low, high.0)) ]

number_fits : (n : ℕ) (value : ℤ) → ((n < 6) × ((value ≡ pos 0) ⊎ (value ≡ pos 1))) ⊎ ((6 ≤ n) × FitsSigned w32 value) → fits_input n value ≡ true
number_fits n value (inl low) = ap (λ t. cond t (is_level value) (is_position value)) (lt-ltb n 6 low.0) ∙ is_level_of value low.1
number_fits n value (inr high) = ap (λ t. cond t (is_level value) (is_position value)) (le-ltb n 6 high.0) ∙ is_position_of value high.1

pub may_have : (target : List ℕ) (value : ℤ) → level_cause (input_of target) value ≡ None → MayHave target value
may_have target value e = by_input (input_of target) refl e
  where
    by_input : (o : Option ℕ) → input_of target ≡ o → level_cause o value ≡ None → MayHave target value
    by_input None is e = absurd (none-some causes.UnknownTarget (sym e))
    by_input (Some n) is e = (n, named_input target n is, by_number n value (passed (fits_input n value) e))
      where
        passed : (t : Bool) → cond t None (Some causes.ValueOutOfRange) ≡ None → t ≡ true
        passed true e = refl
        passed false e = absurd (none-some causes.ValueOutOfRange (sym e))

pub has_no_cause : (target : List ℕ) (value : ℤ) → MayHave target value → level_cause (input_of target) value ≡ None
has_no_cause target value h =
    ap (λ o. level_cause o value) (input_found target h.0 h.1)
    ∙ ap (λ t. cond t None (Some causes.ValueOutOfRange)) (number_fits h.0 value h.2)
