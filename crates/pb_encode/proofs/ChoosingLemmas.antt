-- The words of an options line, one after the other.
use Rattle.std.proofs.Common.{◌≡◌, ℕ, suc, ◌+◌, ◌≤◌, ◌==◌, Bool, true, false, cond, not, subst, List, [], ◌∷◌, length, refl, sym, ap, ◌∙◌, arith, Some, None, Result, Ok, position, inl, inr}
use Rattle.std.specs.List.{slice_split, onto_first, position_or_len, before_first, after_first}
use Rattle.std.proofs.lemmas.Bool.{cases_lt}
use Rattle.std.proofs.lemmas.Bool.Decides.{nat_tests}
use Rattle.std.proofs.lemmas.List.{take_all, drop_all}
use Rattle.std.proofs.lemmas.List.Sums.{prefix_len-le-length}
use Rattle.std.proofs.lemmas.List.Splits.{slice_split_first, slice_split-cons_no}
use Rattle.pb_words.specs.declared.Refusal.{Refusal}
use Rattle.pb_words.specs.Refusing.{result_then}
use Rattle.pb_encode.specs.declared.choosing.Chosen.{Chosen}
use Rattle.pb_encode.specs.Choosing.{after_word, after_words, words}

pub position-Some_is : {X : Type 0} (p : X → Bool) (xs : List X) (i : ℕ) → position p xs ≡ Some i → position_or_len p xs ≡ i
position-Some_is p xs i h = grind (arith, nat_tests)

pub position-None_is : {X : Type 0} (p : X → Bool) (xs : List X) → position p xs ≡ None → position_or_len p xs ≡ length xs
position-None_is p xs h =
    let le : position_or_len p xs ≤ length xs = prefix_len-le-length (λ x. not (p x)) xs in
    grind (arith, nat_tests)

pub ruleset cutting = (position-Some_is, position-None_is)

abbrev is_space : ℕ → Bool
is_space b = b == 32

no_more : (text : List ℕ) → length text ≤ position_or_len is_space text → slice_split is_space text ≡ text ∷ []
no_more [] h = refl
no_more (b ∷ bs) h = by (λ r. no_more bs r) (is_space b) refl
  where
    by : (length bs ≤ position_or_len is_space bs → slice_split is_space bs ≡ bs ∷ []) → (s : Bool) → is_space b ≡ s → slice_split is_space (b ∷ bs) ≡ (b ∷ bs) ∷ []
    by rest true e =
        let few : suc (length bs) ≤ 0 = subst (λ t. suc (length bs) ≤ cond (not t) (1 + position_or_len is_space bs) 0) e h in
        absurd (omega (arith, few))
    by rest false e =
        let more : suc (length bs) ≤ 1 + position_or_len is_space bs =
        subst (λ t. suc (length bs) ≤ cond (not t) (1 + position_or_len is_space bs) 0) e h in
        slice_split-cons_no is_space b bs e ∙ ap (onto_first b) (rest (omega (arith, more)))

-- what the words choose is chosen by the first, and then by those after it
pub next_word :
    (chosen : Chosen) (text : List ℕ) →
    after_words chosen (words text)
    ≡ result_then (after_word chosen (before_first is_space text)) (λ next. after_words next (words (after_first is_space text)))
next_word chosen text = elim (cases_lt (position_or_len is_space text) (length text)) [
  | inl within ↦ ap (after_words chosen) (slice_split_first is_space text 32 within)
  | inr beyond ↦
      let whole : before_first is_space text ≡ text = take_all (position_or_len is_space text) text beyond in
      let none : after_first is_space text ≡ [] = drop_all (position_or_len is_space text + 1) text (omega (arith, beyond)) in
      ap (after_words chosen) (no_more text beyond)
      ∙ (ap (λ w. result_then (after_word chosen w) (λ next. after_words next (words []))) (sym whole)
      ∙ ap (λ rest. result_then (after_word chosen (before_first is_space text)) (λ next. after_words next (words rest))) (sym none))
]

pub one_word :
    (chosen : Chosen) (text word others : List ℕ) (after : Result Chosen Refusal) → word ≡ before_first is_space text →
    others ≡ after_first is_space text → after ≡ after_word chosen word →
    after_words chosen (words text) ≡ result_then after (λ next. after_words next (words others))
one_word chosen text word others after w o a = rw (a, w, o) (next_word chosen text)

pub nothing_left : (chosen : Chosen) (text : List ℕ) → length text ≡ 0 → after_words chosen (words text) ≡ Ok chosen
nothing_left chosen [] e = refl
nothing_left chosen (b ∷ bs) e = absurd (omega (arith, e))
