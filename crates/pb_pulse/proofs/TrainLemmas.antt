-- Trains: when one of the pulses is on.
use Rattle.std.proofs.Common.{◌≡◌, ℕ, zero, suc, ◌+◌, ◌<◌, ◌≤◌, Bool, true, false, ◌&&◌, ◌||◌, refl, ap, ◌∙◌, arith, get_or, nat_lt, nat_le}
use Rattle.std.specs.Bool.{Decides}
use Rattle.std.specs.List.{list_any, range_with_len}
use Rattle.std.proofs.lemmas.Bool.Decides.{same_from_decides}
use Rattle.std.proofs.lemmas.List.Folds.{list_any_at}
use Rattle.std.proofs.lemmas.List.FromFn.{length-range_with_len, get_or-range_with_len}
use borrow.Author.Tests.{ltb-true, leb-true, lt-ltb, le-leb}
use Rattle.pb_pulse.specs.declared.trains.Train.{Train}
use Rattle.pb_pulse.specs.Train.{rise_of, is_pulse_on, is_on, IsOn}

-- some number of a range passes a test
some_of :
    (p : ℕ → Bool) (a n : ℕ) → list_any p (range_with_len a n) ≡ true →
    (i : ℕ) × ((i < a + n) × (p i ≡ true))
some_of p a zero h = absurd (cc)
some_of p a (suc n) h =
    elim (p a) as (λ b. p a ≡ b → (b || list_any p (range_with_len (a + 1) n)) ≡ true → (i : ℕ) × ((i < a + suc n) × (p i ≡ true))) [
      | true ↦ λ e _. (a, (omega arith, e))
      | false ↦ λ e rest.
          let found = some_of p (a + 1) n rest in
          (found.0, (omega (arith, found.1.0), found.1.1))
    ] refl h

one_of : (p : ℕ → Bool) (n i : ℕ) → i < n → p i ≡ true → list_any p (range_with_len 0 n) ≡ true
one_of p n i h e =
    let place : get_or (range_with_len 0 n) i 0 ≡ i = omega (arith, get_or-range_with_len 0 n i 0 h) in
    list_any_at p (range_with_len 0 n) i 0 (omega (arith, length-range_with_len 0 n)) (ap p place ∙ e)

both : (a b : Bool) → (a && b) ≡ true → (a ≡ true) × (b ≡ true)
both true b e = (refl, e)
both false b e = absurd (cc)

pub is_on-decides : (tick : ℕ) (train : Train) → Decides (is_on tick train) (IsOn tick train)
unfolding is_on
is_on-decides tick train = (
  (λ e.
      let found = some_of (is_pulse_on tick train) 0 train.number e in
      let i : ℕ = found.0 in
      let two = both (nat_le (rise_of train i) tick) (nat_lt tick (rise_of train i + train.width)) found.1.1 in
      (i, (omega (arith, found.1.0), leb-true _ _ two.0, ltb-true _ _ two.1))),
  (λ some.
      let i : ℕ = some.0 in
      let begun : nat_le (rise_of train i) tick ≡ true = le-leb _ _ some.1.1 in
      let goes_on : nat_lt tick (rise_of train i + train.width) ≡ true = lt-ltb _ _ some.1.2 in
      let on : is_pulse_on tick train i ≡ true = cc in
      one_of (is_pulse_on tick train) train.number i some.1.0 on),
)

-- the last pulse that has begun decides
pub on_by_last :
    (tick : ℕ) (train : Train) (last : ℕ) → last < train.number → rise_of train last ≤ tick →
    ((i : ℕ) → i < train.number → rise_of train i ≤ tick → rise_of train i ≤ rise_of train last) →
    is_on tick train ≡ nat_lt tick (rise_of train last + train.width)
on_by_last tick train last below begun is_last =
    let decides : Decides (nat_lt tick (rise_of train last + train.width)) (IsOn tick train) = (
      (λ e. (last, (below, begun, ltb-true _ _ e))),
      (λ some.
          let later : rise_of train some.0 ≤ rise_of train last = is_last some.0 some.1.0 some.1.1 in
          lt-ltb _ _ (omega (arith, later, some.1.2))),
    ) in
    same_from_decides _ _ (is_on-decides tick train) decides

-- no train is on before its start
pub off_before : (tick : ℕ) (train : Train) → tick < train.start → is_on tick train ≡ false
off_before tick train early =
    let off : is_on tick train ≡ true → ⊥ = λ e.
    let some : IsOn tick train = (is_on-decides tick train).0 e in
    omega (arith, early, some.1.1) in
    elim (is_on tick train) as (λ b. (b ≡ true → ⊥) → b ≡ false) [ true ↦ λ h. absurd (h refl) | false ↦ λ h. refl ] off
