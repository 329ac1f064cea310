-- Runs in parts.
use Rattle.std.proofs.Common.{◌≡◌, ℕ, zero, suc, ◌+◌, ◌<◌, ◌||◌, ◌⊎◌, nat_lt, Bool, true, false, List, [], ◌∷◌, ◌++◌, map, refl, sym, ap, subst, ◌∙◌, arith, inl, inr, if◌then◌else◌, append_assoc}
use Rattle.std.specs.Prelude.{Option}
use Rattle.std.proofs.lemmas.List.{append-nil}
use Rattle.std.proofs.lemmas.Bool.{lt-ltb}
use Rattle.pb_buses.specs.declared.Bus.{Bus}
use Rattle.pb_buses.specs.declared.Inputs.{Inputs}
use Rattle.pb_buses.specs.declared.Emit.TheVariants as emits
use Rattle.pb_model.specs.declared.Block.{Block}
use Rattle.pb_model.specs.Tick.{emitted_by, emitted_of, handed_on}
use Rattle.pb_still.specs.Eventful.{Moment, next_moment, moment_after, AreBusy, Busy, IsEventful, IsStill, Run}
use Rattle.pb_still.proofs.CountLemmas.{one_count, some_busy}
use Rattle.pb_going.specs.Advanced.{something, handed_out}

pub after_parts : (m n : ℕ) (moment : Moment) → moment_after n (moment_after m moment) ≡ moment_after (m + n) moment
after_parts zero n moment = let e : 0 + n ≡ n = omega arith in ap (λ k. moment_after k moment) (sym e)
after_parts (suc m) n moment =
    let e : suc m + n ≡ suc (m + n) = omega arith in
    after_parts m n (next_moment moment) ∙ ap (λ k. moment_after k moment) (sym e)

pub run_parts : (m n : ℕ) (moment : Moment) (a b c d : ℕ) → Run m moment a b → Run n (moment_after m moment) c d →
    Run (m + n) moment (a + c) (b + d)
run_parts zero n moment a b c d h g =
    let e : 0 + n ≡ n = omega arith in
    let x : c ≡ a + c = omega (arith, h.0) in
    let y : d ≡ b + d = omega (arith, h.1) in
    subst (λ k. Run k moment (a + c) (b + d)) (sym e)
    (subst (λ k. Run n moment (a + c) k) y (subst (λ k. Run n moment k d) x g))
run_parts (suc m) n moment a b c d h g =
    let e : suc m + n ≡ suc (m + n) = omega arith in
    let now : ℕ = if moment.stood || nat_lt 0 h.0 then 1 else 0 in
    let x : a + c ≡ now + (h.1 + c) = omega (arith, h.5) in
    let y : b + d ≡ h.0 + (h.2 + d) = omega (arith, h.6) in
    subst (λ k. Run k moment (a + c) (b + d)) (sym e)
    (h.0, h.1 + c, h.2 + d, h.3, run_parts m n (next_moment moment) h.1 h.2 c d h.4 g, x, y)

-- Of one tick.

eventful_now : (stood : Bool) (busy : ℕ) → (stood ≡ true) ⊎ (0 < busy) → ◌≡◌ {A = ℕ} (if stood || nat_lt 0 busy then 1 else 0) 1
eventful_now true busy h = refl
eventful_now false busy (inl h) = cc
eventful_now false busy (inr h) = rw (lt-ltb 0 busy h) refl

pub one_eventful : (moment : Moment) (busy : ℕ) → IsEventful moment → Busy moment busy → Run 1 moment 1 busy
one_eventful moment busy h counted =
    let some : (moment.stood ≡ true) ⊎ (0 < busy) = elim h [
      | inl stood ↦ inl stood
      | inr found ↦ inr (some_busy moment.box.stands.bus moment.box.stands.tick moment.before moment.box.stands.blocks busy found counted)
    ] in
    let e : busy ≡ busy + 0 = omega arith in
    (busy, 0, 0, counted, (refl, refl), ap (λ n. n + 0) (sym (eventful_now moment.stood busy some)), e)

still_now : (stood : Bool) → stood ≡ false → ◌≡◌ {A = ℕ} (if stood || nat_lt 0 0 then 1 else 0) 0
still_now true e = cc
still_now false e = refl

pub one_still : (moment : Moment) (busy : ℕ) → IsStill moment → Busy moment busy → Run 1 moment 0 busy
one_still moment busy h counted =
    let none : busy ≡ 0 = one_count moment.box.stands.bus moment.box.stands.tick moment.before moment.box.stands.blocks busy 0 counted h.idle in
    let e : busy ≡ 0 + 0 = omega (arith, none) in
    (0, 0, 0, h.idle, (refl, refl), ap (λ n. n + 0) (sym (still_now moment.stood h.untouched)), e)

-- What is handed out.

pub handed_parts : (m n : ℕ) (moment : Moment) → handed_out (m + n) moment ≡ handed_out m moment ++ handed_out n (moment_after m moment)
handed_parts zero n moment = let e : 0 + n ≡ n = omega arith in ap (λ k. handed_out k moment) e
handed_parts (suc m) n moment =
    let e : suc m + n ≡ suc (m + n) = omega arith in
    ap (λ k. handed_out k moment) e
    ∙ (ap (λ l. something (emitted_of moment.box.stands) ++ l) (handed_parts m n (next_moment moment))
    ∙ sym (append_assoc (something (emitted_of moment.box.stands)) (handed_out m (next_moment moment)) (handed_out n (moment_after m (next_moment moment)))))

pub one_handed : (moment : Moment) → handed_out 1 moment ≡ something (emitted_of moment.box.stands)
one_handed moment = append-nil (something (emitted_of moment.box.stands))

-- blocks that are idle emit nothing
idle_emits_nothing : (bus : Bus) (tick : ℕ) (before : List (Option Inputs)) (blocks : List Block) (busy : ℕ) → busy ≡ 0 → AreBusy bus tick before blocks busy →
    handed_on emits.Nothing (map (emitted_by bus tick) blocks) ≡ emits.Nothing
idle_emits_nothing bus tick [] [] busy e h = refl
idle_emits_nothing bus tick [] (b ∷ blocks) busy e h = absurd h
idle_emits_nothing bus tick (s ∷ before) [] busy e h = absurd h
idle_emits_nothing bus tick (s ∷ before) (b ∷ blocks) busy e (inl h) =
    rw h.0.calm.quiet (idle_emits_nothing bus tick before blocks busy e h.1)
idle_emits_nothing bus tick (s ∷ before) (b ∷ blocks) busy e (inr h) = absurd (omega (arith, e, h.1.1))

pub still_hands_nothing : (n : ℕ) (moment : Moment) (a b : ℕ) → b ≡ 0 → Run n moment a b → handed_out n moment ≡ []
still_hands_nothing zero moment a b e h = refl
still_hands_nothing (suc n) moment a b e h =
    let none : h.0 ≡ 0 = omega (arith, e, h.6) in
    let rest : h.2 ≡ 0 = omega (arith, e, h.6) in
    ap (λ x. something x ++ handed_out n (next_moment moment))
    (idle_emits_nothing moment.box.stands.bus moment.box.stands.tick moment.before moment.box.stands.blocks h.0 none h.3)
    ∙ still_hands_nothing n (next_moment moment) h.1 h.2 rest h.4
