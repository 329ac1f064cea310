-- Ticks are counted part by part.
use Rattle.std.proofs.Common.{◌≡◌, ℕ, zero, suc, ◌+◌, ◌-◌, ◌*◌, ◌<◌, ◌≤◌, ◌||◌, ◌⊎◌, nat_lt, Bool, true, false, List, [], ◌∷◌, ◌++◌, map, length, refl, sym, ap, subst, inl, inr, ◌∙◌, arith, if◌then◌else◌}
use Rattle.std.specs.Prelude.{Option, None}
use Rattle.std.proofs.lemmas.List.{append_assoc, append-nil, length-map}
use Rattle.std.proofs.lemmas.Bool.{lt-ltb}
use Rattle.pb_buses.specs.declared.Bus.{Bus}
use Rattle.pb_buses.specs.declared.Inputs.{Inputs}
use Rattle.pb_stim.specs.declared.Row.{Row}
use Rattle.pb_model.specs.declared.Block.{Block}
use Rattle.pb_model.specs.Tick.{block_after}
use Rattle.pb_still.specs.Eventful.{Moment, next_moment, AreBusy, IsEventful, Run}
use Rattle.pb_core.specs.declared.Event.{Event}
use Rattle.pb_core.specs.declared.Event.TheVariants as events
use Rattle.pb_core.specs.Answer.{CoreState, opening, moment_of, after, after_all}
use Rattle.pb_core.proofs.MuxedLemmas.{blocks_are_35}
use Rattle.pb_replay.specs.Counting.{ticks_of, Counted, ticks_ahead, IsCountedPart}
use Rattle.pb_replay.proofs.PendingLemmas.{after_all-append}

-- Events, and then more.

pub counted_append : (front more : List Event) (core : CoreState) (a b c d : ℕ) → Counted core front a b → Counted (after_all core front) more c d →
    Counted core (front ++ more) (a + c) (b + d)
counted_append [] more core a b c d h g =
    let x : c ≡ a + c = omega (arith, h.0) in
    let y : d ≡ b + d = omega (arith, h.1) in
    subst (λ n. Counted core more n (b + d)) x (subst (λ n. Counted core more c n) y g)
counted_append (event ∷ front) more core a b c d h g =
    let x : a + c ≡ h.0 + (h.2 + c) = omega (arith, h.6) in
    let y : b + d ≡ h.1 + (h.3 + d) = omega (arith, h.7) in
    (h.0, h.1, h.2 + c, h.3 + d, h.4, counted_append front more (after core event) h.2 h.3 c d h.5 g, x, y)

-- Events that make no tick.

abbrev pub MakeNone : List Event → Type 0
MakeNone [] = Unit {0}
MakeNone (event ∷ more) = ((core : CoreState) → ticks_of core event ≡ 0) × MakeNone more

pub none_append : (front more : List Event) → MakeNone front → MakeNone more → MakeNone (front ++ more)
none_append [] more h g = g
none_append (event ∷ front) more h g = (h.0, none_append front more h.1 g)

pub counted_none : (happening : List Event) (core : CoreState) → MakeNone happening → Counted core happening 0 0
counted_none [] core h = (refl, refl)
counted_none (event ∷ more) core h =
    let none : Run 0 (moment_of core) 0 0 = (refl, refl) in
    (0, 0, 0, 0, subst (λ n. Run n (moment_of core) 0 0) (sym (h.0 core)) none, counted_none more (after core event) h.1, refl, refl)

-- Parts.

pub part_all : (core : CoreState) (happening : List Event) (eventful busy : ℕ) → Counted core happening eventful busy → IsCountedPart core happening eventful busy
part_all core happening eventful busy h =
    record {
      front = happening;
      rest = [];
      split = sym (append-nil happening);
      early = eventful;
      work = busy;
      counted = h;
      ticks = 0;
      within = omega arith;
      late = 0;
      more = 0;
      run = (refl, refl);
      all_eventful = omega arith;
      all_busy = omega arith;
    }

ahead_more : (rest more : List Event) (core : CoreState) (n : ℕ) → n ≤ ticks_ahead core rest → n ≤ ticks_ahead core (rest ++ more)
ahead_more [] more core n h = omega (arith, h)
ahead_more (event ∷ rest) more core n h = h

-- a part of the first events is one of these and more
pub part_longer : (core : CoreState) (first more : List Event) (eventful busy : ℕ) → IsCountedPart core first eventful busy → IsCountedPart core (first ++ more) eventful busy
part_longer core first more eventful busy p =
    record {
      front = p.front;
      rest = p.rest ++ more;
      split = ap (λ x. x ++ more) p.split ∙ append_assoc p.front p.rest more;
      early = p.early;
      work = p.work;
      counted = p.counted;
      ticks = p.ticks;
      within = ahead_more p.rest more (after_all core p.front) p.ticks p.within;
      late = p.late;
      more = p.more;
      run = p.run;
      all_eventful = p.all_eventful;
      all_busy = p.all_busy;
    }

-- what happened before, and a part of what comes behind it
pub part_behind : (core : CoreState) (front behind : List Event) (a b eventful busy : ℕ) → Counted core front a b →
    IsCountedPart (after_all core front) behind eventful busy → IsCountedPart core (front ++ behind) (a + eventful) (b + busy)
part_behind core front behind a b eventful busy h p =
    let there : after_all core (front ++ p.front) ≡ after_all (after_all core front) p.front = after_all-append front p.front core in
    record {
      front = front ++ p.front;
      rest = p.rest;
      split = ap (λ x. front ++ x) p.split ∙ sym (append_assoc front p.front p.rest);
      early = a + p.early;
      work = b + p.work;
      counted = counted_append front p.front core a b p.early p.work h p.counted;
      ticks = p.ticks;
      within = subst (λ c. p.ticks ≤ ticks_ahead c p.rest) (sym there) p.within;
      late = p.late;
      more = p.more;
      run = subst (λ c. Run p.ticks (moment_of c) p.late p.more) (sym there) p.run;
      all_eventful = omega (arith, p.all_eventful);
      all_busy = omega (arith, p.all_busy);
    }

-- At most 35 blocks are busy at a tick, and only at an eventful one.

few_busy : (bus : Bus) (tick : ℕ) (before : List (Option Inputs)) (blocks : List Block) (n : ℕ) → AreBusy bus tick before blocks n → n ≤ length blocks
few_busy bus tick [] [] n h = omega (arith, h)
few_busy bus tick [] (b ∷ blocks) n h = absurd h
few_busy bus tick (s ∷ before) [] n h = absurd h
few_busy bus tick (s ∷ before) (b ∷ blocks) n (inl h) =
    let less : n ≤ length blocks = few_busy bus tick before blocks n h.1 in
    omega (arith, less)
few_busy bus tick (s ∷ before) (b ∷ blocks) n (inr h) =
    let less : h.1.0 ≤ length blocks = few_busy bus tick before blocks h.1.0 h.1.2 in
    omega (arith, less, h.1.1)

one_where_busy : (stood : Bool) (here : ℕ) → 0 < here → ◌≡◌ {A = ℕ} (if stood || nat_lt 0 here then 1 else 0) 1
one_where_busy true here h = refl
one_where_busy false here h = rw (lt-ltb 0 here h) refl

here_few : (stood : Bool) (here : ℕ) → here ≤ 35 → here ≤ 35 * (if stood || nat_lt 0 here then 1 else 0)
here_few stood zero h = omega arith
here_few stood (suc k) h =
    let one : (if stood || nat_lt 0 (suc k) then 1 else 0) ≡ 1 = one_where_busy stood (suc k) (omega arith) in
    subst (λ n. suc k ≤ 35 * n) (sym one) (omega (arith, h))

run_busy : (n : ℕ) (moment : Moment) (eventful busy : ℕ) → length moment.box.stands.blocks ≡ 35 → Run n moment eventful busy → busy ≤ 35 * eventful
run_busy zero moment eventful busy many h = omega (arith, h.1)
run_busy (suc n) moment eventful busy many h =
    let few : h.0 ≤ 35 =
    subst (λ k. h.0 ≤ k) many (few_busy moment.box.stands.bus moment.box.stands.tick moment.before moment.box.stands.blocks h.0 h.3) in
    let now : ℕ = if moment.stood || nat_lt 0 h.0 then 1 else 0 in
    let one : h.0 ≤ 35 * now = here_few moment.stood h.0 few in
    let rest : h.2 ≤ 35 * h.1 =
    run_busy n (next_moment moment) h.1 h.2 (length-map moment.box.stands.blocks (block_after moment.box.stands.bus moment.box.stands.tick) ∙ many) h.4 in
    let all : eventful ≡ now + h.1 = h.5 in
    omega (arith, one, rest, all, h.6)

counted_busy : (happening done : List Event) (rows : List Row) (eventful busy : ℕ) → Counted (after_all (opening rows) done) happening eventful busy → busy ≤ 35 * eventful
counted_busy [] done rows eventful busy h = omega (arith, h.1)
counted_busy (event ∷ more) done rows eventful busy h =
    let core : CoreState = after_all (opening rows) done in
    let first : h.1 ≤ 35 * h.0 = run_busy (ticks_of core event) (moment_of core) h.0 h.1 (blocks_are_35 rows done) h.4 in
    let next : Counted (after_all (opening rows) (done ++ event ∷ [])) more h.2 h.3 =
    subst (λ c. Counted c more h.2 h.3) (sym (after_all-append done (event ∷ []) (opening rows))) h.5 in
    let rest : h.3 ≤ 35 * h.2 = counted_busy more (done ++ event ∷ []) rows h.2 h.3 next in
    omega (arith, first, rest, h.6, h.7)

pub part_busy : (happening : List Event) (rows : List Row) (eventful busy : ℕ) → IsCountedPart (opening rows) happening eventful busy → busy ≤ 35 * eventful
part_busy happening rows eventful busy p =
    let early : p.work ≤ 35 * p.early = counted_busy p.front [] rows p.early p.work p.counted in
    let late : p.more ≤ 35 * p.late = run_busy p.ticks (moment_of (after_all (opening rows) p.front)) p.late p.more (blocks_are_35 rows p.front) p.run in
    omega (arith, early, late, p.all_eventful, p.all_busy)
