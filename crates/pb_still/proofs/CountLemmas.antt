-- Busy blocks and eventful ticks are counted once.
use Rattle.std.proofs.Common.{◌≡◌, ℕ, zero, suc, ◌+◌, ◌||◌, nat_lt, List, [], ◌∷◌, sym, ap, ◌∙◌, inl, inr, if◌then◌else◌, ◌<◌, ◌⊎◌, ◌↔◌, true, arith}
use Rattle.std.specs.Prelude.{Option}
use Rattle.pb_buses.specs.declared.Bus.{Bus}
use Rattle.pb_buses.specs.declared.Inputs.{Inputs}
use Rattle.pb_model.specs.declared.Block.{Block}
use Rattle.pb_still.specs.Eventful.{Moment, next_moment, AreBusy, IsOneBusy, Busy, IsEventful, Run}

pub one_count : (bus : Bus) (tick : ℕ) (before : List (Option Inputs)) (blocks : List Block) (m n : ℕ) →
    AreBusy bus tick before blocks m → AreBusy bus tick before blocks n → m ≡ n
one_count bus tick [] [] m n h g = h ∙ sym g
one_count bus tick [] (block ∷ blocks) m n h g = absurd h
one_count bus tick (saw ∷ before) [] m n h g = absurd h
one_count bus tick (saw ∷ before) (block ∷ blocks) m n (inl h) (inl g) = one_count bus tick before blocks m n h.1 g.1
one_count bus tick (saw ∷ before) (block ∷ blocks) m n (inl h) (inr g) = absurd (g.0 h.0)
one_count bus tick (saw ∷ before) (block ∷ blocks) m n (inr h) (inl g) = absurd (h.0 g.0)
one_count bus tick (saw ∷ before) (block ∷ blocks) m n (inr h) (inr g) =
    h.1.1 ∙ (ap (λ k. k + 1) (one_count bus tick before blocks h.1.0 g.1.0 h.1.2 g.1.2) ∙ sym g.1.1)

pub one_run : (n : ℕ) (moment : Moment) (a b c d : ℕ) → Run n moment a b → Run n moment c d → (a ≡ c) × (b ≡ d)
one_run zero moment a b c d h g = (h.0 ∙ sym g.0, h.1 ∙ sym g.1)
one_run (suc n) moment a b c d h g =
    let here : h.0 ≡ g.0 =
    one_count moment.box.stands.bus moment.box.stands.tick moment.before moment.box.stands.blocks h.0 g.0 h.3 g.3 in
    let rest : (h.1 ≡ g.1) × (h.2 ≡ g.2) = one_run n (next_moment moment) h.1 h.2 g.1 g.2 h.4 g.4 in (
      h.5
          ∙ (ap (λ k. (if moment.stood || nat_lt 0 k then 1 else 0) + h.1) here
          ∙ (ap (λ k. (if moment.stood || nat_lt 0 g.0 then 1 else 0) + k) rest.0 ∙ sym g.5)),
      h.6 ∙ (ap (λ k. k + h.2) here ∙ (ap (λ k. g.0 + k) rest.1 ∙ sym g.6)),
    )

-- Some are busy exactly where one is.

pub some_busy : (bus : Bus) (tick : ℕ) (before : List (Option Inputs)) (blocks : List Block) (busy : ℕ) → IsOneBusy bus tick before blocks →
    AreBusy bus tick before blocks busy → 0 < busy
some_busy bus tick [] blocks busy h c = absurd h
some_busy bus tick (s ∷ before) [] busy h c = absurd h
some_busy bus tick (s ∷ before) (b ∷ blocks) busy (inl h) (inl c) = absurd (h c.0)
some_busy bus tick (s ∷ before) (b ∷ blocks) busy (inr h) (inl c) = some_busy bus tick before blocks busy h c.1
some_busy bus tick (s ∷ before) (b ∷ blocks) busy h (inr c) = omega (arith, c.1.1)

pub one_of_some : (bus : Bus) (tick : ℕ) (before : List (Option Inputs)) (blocks : List Block) (busy : ℕ) → 0 < busy →
    AreBusy bus tick before blocks busy → IsOneBusy bus tick before blocks
one_of_some bus tick [] [] busy h c = absurd (omega (arith, h, c))
one_of_some bus tick [] (b ∷ blocks) busy h c = absurd c
one_of_some bus tick (s ∷ before) [] busy h c = absurd c
one_of_some bus tick (s ∷ before) (b ∷ blocks) busy h (inl c) = inr (one_of_some bus tick before blocks busy h c.1)
one_of_some bus tick (s ∷ before) (b ∷ blocks) busy h (inr c) = inl c.0

pub counted_eventful : (moment : Moment) (busy : ℕ) → Busy moment busy → IsEventful moment ↔ ((moment.stood ≡ true) ⊎ (0 < busy))
counted_eventful moment busy c = (
  λ h. elim h [
    | inl stood ↦ inl stood
    | inr one ↦ inr (some_busy moment.box.stands.bus moment.box.stands.tick moment.before moment.box.stands.blocks busy one c)
  ],
  λ h. elim h [
    | inl stood ↦ inl stood
    | inr some ↦ inr (one_of_some moment.box.stands.bus moment.box.stands.tick moment.before moment.box.stands.blocks busy some c)
  ],
)
