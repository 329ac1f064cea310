-- A queue: how long it stays as it is.
use Rattle.std.proofs.Common.{◌≡◌, ℕ, ◌+◌, ◌-◌, ◌<◌, ◌≤◌, inl, inr, Bool, true, false, not, cond, refl, sym, ap, ◌∙◌, arith, List, [], ◌∷◌, length, drop, slice_get, Some, None}
use mathlib.Core.Bool.{beq}
use Rattle.std.proofs.lemmas.Bool.{cases_lt}
use Rattle.pb_pulse.specs.declared.trains.Train.{Train}
use Rattle.pb_pulse.specs.Train.{end_of, is_on}
use Rattle.pb_pulse.specs.Queue.{is_any_on, stays, left, InOrder}
use Rattle.pb_pulse.specs.Holding.{Holds, IsStill, IsStillFor}
use Rattle.pb_pulse.proofs.QueueLemmas.{Leaves, front_leaves, Stays, front_stays}

-- two levels that the code finds equal, or not
pub same_level : (a b : Bool) → not (beq a b) ≡ false → a ≡ b
same_level true true e = refl
same_level true false e = cc
same_level false true e = cc
same_level false false e = refl

pub other_level : (a b : Bool) → not (beq a b) ≡ true → ¬ (a ≡ b)
other_level true true e same = absurd (cc)
other_level true false e same = cc
other_level false true e same = cc
other_level false false e same = absurd (cc)

pub no_trains : (queue : List Train) → length queue ≡ 0 → queue ≡ []
no_trains [] e = refl
no_trains (train ∷ others) e = absurd (omega (arith, e))

-- no more trains are left than there were
left_less : (tick : ℕ) (queue : List Train) → length (left tick queue) ≤ length queue
left_less tick [] = omega arith
left_less tick (train ∷ others) =
    let rest = left_less tick others in
    elim (stays tick train) as (λ b. length (cond b (train ∷ left tick others) (left tick others)) ≤ length (train ∷ others)) [
      | true ↦ omega (arith, rest)
      | false ↦ omega (arith, rest)
    ]

module _ (tick : ℕ) (out : Bool) (queue : List Train) where
  at_once : ¬ (IsStill out queue tick) → IsStillFor tick out queue (Some 0)
  at_once moves =
      let here : tick + 0 ≡ tick = omega arith in
      ((λ t from below. absurd (omega (arith, from, below))), rw here moves)

  pub none_high : queue ≡ [] → out ≡ true → IsStillFor tick out queue (Some 0)
  none_high empty high =
      at_once (λ still.
      let level : is_any_on tick [] ≡ true = ap (is_any_on tick) (sym empty) ∙ still.level ∙ high in
      cc)

  pub none_low : queue ≡ [] → out ≡ false → IsStillFor tick out queue None
  none_low empty low = λ t from.
      record {
        stay = ap (left t) empty ∙ sym empty;
        level = ap (is_any_on t) empty ∙ sym low;
      }

  module _ (front : Train) (ordered : InOrder 0 queue) (first : slice_get queue 0 ≡ Some front) where
    moves : (t : ℕ) → end_of front ≤ t + 1 → ¬ (IsStill out queue t)
    moves t ends still =
        let leaves : Leaves t front queue = front_leaves t front queue ordered first ends in
        let same : length (left t (drop 1 queue)) ≡ length queue = ap length (sym leaves.rest ∙ still.stay) in
        omega (arith, same, left_less t (drop 1 queue), leaves.fewer)

    stills : (t : ℕ) → t + 1 < end_of front → is_on t front ≡ out → IsStill out queue t
    stills t short level =
        let whole : Stays t front queue = front_stays t front queue ordered first short in
        record { stay = whole.rest; level = whole.on ∙ level }

    leveled : (t : ℕ) → t + 1 < end_of front → IsStill out queue t → is_on t front ≡ out
    leveled t short still =
        let whole : Stays t front queue = front_stays t front queue ordered first short in
        sym whole.on ∙ still.level

    pub leaves_now : end_of front ≤ tick + 1 → IsStillFor tick out queue (Some 0)
    leaves_now ends = at_once (moves tick ends)

    pub turns_now : tick + 1 < end_of front → ¬ (is_on tick front ≡ out) → IsStillFor tick out queue (Some 0)
    turns_now short other = at_once (λ still. other (leveled tick short still))

    turned :
        (last : ℕ) → is_on tick front ≡ out → Holds tick front last → IsStill out queue last →
        ¬ (is_on last front ≡ is_on tick front) → ⊥
    turned last level holds still other =
        elim (cases_lt (last + 1) (end_of front)) [
          | inl short ↦ other (leveled last short still ∙ sym level)
          | inr long ↦ moves last long still
        ]

    ended : (last : ℕ) → is_on tick front ≡ out → Holds tick front last → ¬ (IsStill out queue last)
    ended last level holds still =
        elim holds.ends [
          | inl gone ↦ moves last (omega (arith, gone)) still
          | inr other ↦ turned last level holds still other
        ]

    pub holds_on : (last : ℕ) → is_on tick front ≡ out → Holds tick front last → IsStillFor tick out queue (Some (last - tick))
    holds_on last level holds =
        let end : tick + (last - tick) ≡ last = omega (arith, holds.later) in
        rw end (
          (λ t from below.
              stills t (omega (arith, below, holds.within)) (holds.same t from below ∙ level)),
          ended last level holds,
        )
