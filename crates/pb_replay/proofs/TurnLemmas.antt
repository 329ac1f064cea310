-- An advance of a script, over one eventful tick after the other.
use Rattle.std.proofs.Common.{◌≡◌, ℕ, zero, suc, ◌+◌, ◌-◌, ◌*◌, ◌<◌, ◌≤◌, ◌||◌, ◌⊎◌, nat_lt, max, Bool, true, false, List, [], ◌∷◌, refl, sym, ap, subst, inl, inr, ◌∙◌, arith, if◌then◌else◌}
use Rattle.std.proofs.lemmas.Bool.{lt-ltb}
use Rattle.pb_core.specs.declared.Event.TheVariants as events
use Rattle.pb_core.specs.declared.Answer.{Answer}
use Rattle.pb_core.specs.declared.Answer.TheVariants as answers
use Rattle.pb_going.specs.declared.Why.{Why}
use Rattle.pb_going.specs.declared.Why.TheVariants as whys
use Rattle.pb_going.specs.Sims.{outdated}
use Rattle.pb_going.proofs.RunLemmas.{run_parts}
use Rattle.pb_model.specs.Tick.{Standing}
use Rattle.pb_still.specs.Eventful.{Moment, IsEventful, Run}
use Rattle.pb_still.proofs.CountLemmas.{one_run, some_busy}
use Rattle.pb_core.specs.Kept.{KeptCore, Agrees}
use Rattle.pb_core.specs.Core.{ticked}
use Rattle.pb_core.specs.Costs.{AdvanceCosts}
use Rattle.pb_core.specs.Answer.{CoreState, moment_of, ticks_of_core, advanced, after, Reaches, IsTold, after_told}
use Rattle.pb_core.proofs.RunLemmas.{moment_then, ticks_on}
use Rattle.pb_replay.specs.Events.{going_to}
use Rattle.pb_replay.specs.Counting.{Counted, limit, IsCountedPart}
use Rattle.pb_replay.specs.Pending.{goes_on}
use Rattle.pb_replay.specs.Tallies.{Tally, AddsTicks, IsReady, WentAll, WentSome, WentTo, Turns, IsOnWay}

-- The core at a tick.

ticks_parts : (m n : ℕ) (core : CoreState) → ticks_of_core n (ticks_of_core m core) ≡ ticks_of_core (m + n) core
ticks_parts zero n core = let e : 0 + n ≡ n = omega arith in ap (λ k. ticks_of_core k core) (sym e)
ticks_parts (suc m) n core =
    let e : suc m + n ≡ suc (m + n) = omega arith in
    ticks_parts m n (ticked core) ∙ ap (λ k. ticks_of_core k core) (sym e)

at_tick : (core : CoreState) (tick : ℕ) → core.box.stands.tick ≤ tick → (advanced core tick).box.stands.tick ≡ tick
at_tick core tick h = omega (arith, ticks_on (tick - core.box.stands.tick) core, h)

kept_tick : (kept : KeptCore) (core : CoreState) → Agrees kept core → kept.sim.tick ≡ core.box.stands.tick
kept_tick kept core h = ap (λ (s : Standing). s.tick) h.run.box.stands

advanced_on : (core : CoreState) (a b : ℕ) → core.box.stands.tick ≤ a → a ≤ b → advanced (advanced core a) b ≡ advanced core b
advanced_on core a b h g =
    let now : ℕ = core.box.stands.tick in
    let all : (a - now) + (b - a) ≡ b - now = omega (arith, h, g) in
    ap (λ t. ticks_of_core (b - t) (advanced core a)) (at_tick core a h)
    ∙ (ticks_parts (a - now) (b - a) core ∙ ap (λ k. ticks_of_core k core) all)

run_on : (core : CoreState) (a b e w f v : ℕ) → core.box.stands.tick ≤ a → a ≤ b → Run (a - core.box.stands.tick) (moment_of core) e w →
    Run (b - (advanced core a).box.stands.tick) (moment_of (advanced core a)) f v → Run (b - core.box.stands.tick) (moment_of core) (e + f) (w + v)
run_on core a b e w f v h g r s =
    let now : ℕ = core.box.stands.tick in
    let all : (a - now) + (b - a) ≡ b - now = omega (arith, h, g) in
    let next : Run (b - a) (moment_of (advanced core a)) f v =
    subst (λ t. Run (b - t) (moment_of (advanced core a)) f v) (at_tick core a h) s in
    subst (λ n. Run n (moment_of core) (e + f) (w + v)) all
    (run_parts (a - now) (b - a) (moment_of core) e w f v r (subst (λ m. Run (b - a) m f v) (moment_then (a - now) core) next))

-- One turn.

one_now : (stood : Bool) (busy : ℕ) → (stood ≡ true) ⊎ (0 < busy) → ◌≡◌ {A = ℕ} (if stood || nat_lt 0 busy then 1 else 0) 1
one_now true busy h = refl
one_now false busy (inl h) = cc
one_now false busy (inr h) = rw (lt-ltb 0 busy h) refl

-- a run that begins with an eventful tick has one
first_counts : (n : ℕ) (moment : Moment) (eventful busy : ℕ) → 0 < n → IsEventful moment → Run n moment eventful busy → 1 ≤ eventful
first_counts zero moment eventful busy some h r = absurd (omega (arith, some))
first_counts (suc n) moment eventful busy some h r =
    let busy_or_stood : (moment.stood ≡ true) ⊎ (0 < r.0) = elim h [
      | inl stood ↦ inl stood
      | inr found ↦ inr (some_busy moment.box.stands.bus moment.box.stands.tick moment.before moment.box.stands.blocks r.0 found r.3)
    ] in
    let one : (if moment.stood || nat_lt 0 r.0 then 1 else 0) ≡ 1 = one_now moment.stood r.0 busy_or_stood in
    let all : eventful ≡ 1 + r.1 = r.5 ∙ ap (λ k. k + r.1) one in
    omega (arith, all)

module _ (state : CoreState) (kept next : KeptCore) (to tick was spent : ℕ) (ahead : kept.sim.tick < to) (h : Agrees kept state)
    (there : Agrees next (advanced state tick)) (costs : AdvanceCosts state kept next was spent) where
  now_is : kept.sim.tick ≡ state.box.stands.tick
  now_is = kept_tick kept state h

  calls_of : (why : Why) (r : Reaches state (max state.box.stands.tick to) 1 tick why) →
      spent + outdated next.sim ≤ (was + outdated kept.sim) + 3 * r.busy
  calls_of why r =
      let at : next.sim.tick ≡ tick = kept_tick next (advanced state tick) there ∙ at_tick state tick r.from_now in
      let same : next.sim.tick - kept.sim.tick ≡ tick - state.box.stands.tick = omega (arith, at, now_is) in
      let run : Run (tick - state.box.stands.tick) (moment_of state) costs.eventful costs.busy =
      subst (λ n. Run n (moment_of state) costs.eventful costs.busy) same costs.run in
      let one : r.busy ≡ costs.busy = (one_run (tick - state.box.stands.tick) (moment_of state) r.eventful r.busy costs.eventful costs.busy r.run run).1 in
      omega (arith, one, costs.calls, costs.known)

  within_of : (why : Why) → Reaches state (max state.box.stands.tick to) 1 tick why → tick ≤ to
  within_of why r = omega (arith, r.within, ahead, now_is)

  turned_at : (why : Why) → Reaches state (max state.box.stands.tick to) 1 tick why →
      Turns (goes_on (answers.Reached tick why)) state to next (was + outdated kept.sim) (spent + outdated next.sim)
  turned_at whys.Target r =
      let at : tick ≡ to = omega (arith, at_tick state tick r.from_now, r.ends, ahead, now_is) in
      record {
        tick = tick;
        from_now = r.from_now;
        within = within_of whys.Target r;
        agrees = there;
        eventful = r.eventful;
        busy = r.busy;
        run = r.run;
        calls = calls_of whys.Target r;
        counts = λ first.
            let some : 0 < tick - state.box.stands.tick = omega (arith, at, ahead, now_is) in
            let least : 1 ≤ r.eventful = first_counts (tick - state.box.stands.tick) (moment_of state) r.eventful r.busy some first r.run in
            omega (arith, least, r.few);
        next = λ goes. inl (omega (arith, at));
      }
  turned_at whys.Events r =
      record {
        tick = tick;
        from_now = r.from_now;
        within = within_of whys.Events r;
        agrees = there;
        eventful = r.eventful;
        busy = r.busy;
        run = r.run;
        calls = calls_of whys.Events r;
        counts = λ first. r.ends.1;
        next = λ goes. inr r.ends.2;
      }
  turned_at whys.Memory r =
      record {
        tick = tick;
        from_now = r.from_now;
        within = within_of whys.Memory r;
        agrees = there;
        eventful = r.eventful;
        busy = r.busy;
        run = r.run;
        calls = calls_of whys.Memory r;
        counts = λ first. omega (arith, r.ends.1);
        next = λ goes. absurd (cc);
      }

pub turned : (state : CoreState) (kept next : KeptCore) (to was spent : ℕ) (told : Answer) → kept.sim.tick < to → Agrees kept state →
    IsTold state (events.Advance to 1) told → Agrees next (after_told state (events.Advance to 1) told) → AdvanceCosts state kept next was spent →
    Turns (goes_on told) state to next (was + outdated kept.sim) (spent + outdated next.sim)
turned state kept next to was spent (answers.Reached tick why) ahead h reach there costs = turned_at state kept next to tick was spent ahead h there costs why reach
turned state kept next to was spent told ahead h reach there costs = absurd reach

-- The way to a target.

pub way_first : (state : CoreState) (to : ℕ) (kept : KeptCore) (old : Tally) → Agrees kept state → IsOnWay state to kept old old
way_first state to kept old h =
    let now : ℕ = state.box.stands.tick in
    let none : now - now ≡ 0 = omega arith in
    let still : Run 0 (moment_of state) 0 0 = (refl, refl) in
    record {
      tick = now;
      from_now = omega arith;
      within = omega arith;
      agrees = subst (λ n. Agrees kept (ticks_of_core n state)) (sym none) h;
      eventful = 0;
      busy = 0;
      run = subst (λ n. Run n (moment_of state) 0 0) (sym none) still;
      calls = omega arith;
      counts = λ first. omega arith;
      next = λ first. inr (subst (λ n. IsEventful (moment_of (ticks_of_core n state))) (sym none) first);
    }

-- where it stands
pub way_tick : (state : CoreState) (to : ℕ) (kept : KeptCore) (old new : Tally) → (w : IsOnWay state to kept old new) → kept.sim.tick ≡ w.tick
way_tick state to kept old new w = kept_tick kept (advanced state w.tick) w.agrees ∙ at_tick state w.tick w.from_now

-- the next tick is eventful, before the target
eventful_next : (state : CoreState) (to : ℕ) (kept : KeptCore) (old new : Tally) (w : IsOnWay state to kept old new) → w.tick < to → IsEventful (moment_of state) →
    IsEventful (moment_of (advanced state w.tick))
eventful_next state to kept old new w ahead first =
    elim (w.next first) [
      | inl over ↦ absurd (omega (arith, over, ahead))
      | inr next ↦ next
    ]

-- one eventful tick more
pub way_more : (state : CoreState) (to : ℕ) (kept next : KeptCore) (old mid new : Tally) → kept.sim.tick < to → (w : IsOnWay state to kept old mid) →
    Turns true (advanced state w.tick) to next mid.calls new.calls → new.eventful ≡ mid.eventful + 1 → IsOnWay state to next old new
way_more state to kept next old mid new ahead w u more =
    let now : ℕ = state.box.stands.tick in
    let before : w.tick < to = omega (arith, ahead, way_tick state to kept old mid w) in
    let onward : w.tick ≤ u.tick = omega (arith, u.from_now, at_tick state w.tick w.from_now) in
    let there : advanced (advanced state w.tick) u.tick ≡ advanced state u.tick = advanced_on state w.tick u.tick w.from_now onward in
    record {
      tick = u.tick;
      from_now = omega (arith, w.from_now, onward);
      within = omega (arith, u.within);
      agrees = subst (Agrees next) there u.agrees;
      eventful = w.eventful + u.eventful;
      busy = w.busy + u.busy;
      run = run_on state w.tick u.tick w.eventful w.busy u.eventful u.busy w.from_now onward w.run u.run;
      calls = omega (arith, w.calls, u.calls);
      counts = λ first.
          let one : u.eventful ≡ 1 = u.counts (eventful_next state to kept old mid w before first) in
          omega (arith, one, more, w.counts first);
      next = λ first. elim (u.next refl) [
        | inl over ↦ inl over
        | inr eventful ↦ inr (subst (λ c. IsEventful (moment_of c)) there eventful)
      ];
    }

-- the target
ticks_there : (state : CoreState) (to : ℕ) (kept : KeptCore) (old new : Tally) (w : IsOnWay state to kept old new) → to ≤ kept.sim.tick →
    w.tick - state.box.stands.tick ≡ to - state.box.stands.tick
ticks_there state to kept old new w over = omega (arith, over, way_tick state to kept old new w, w.within)

pub way_leads : (state : CoreState) (to : ℕ) (kept : KeptCore) (old new : Tally) → to ≤ kept.sim.tick → IsOnWay state to kept old new →
    Agrees kept (after state (going_to to))
way_leads state to kept old new over w = subst (λ n. Agrees kept (ticks_of_core n state)) (ticks_there state to kept old new w over) w.agrees

pub way_all : (state : CoreState) (to : ℕ) (kept : KeptCore) (old new : Tally) → to ≤ kept.sim.tick → IsEventful (moment_of state) → new.eventful < limit →
    IsOnWay state to kept old new → WentAll 0 state (going_to to ∷ []) old new
way_all state to kept old new over first few w =
    let all : Run (to - state.box.stands.tick) (moment_of state) w.eventful w.busy =
    subst (λ n. Run n (moment_of state) w.eventful w.busy) (ticks_there state to kept old new w over) w.run in
    let x : w.eventful ≡ w.eventful + 0 = omega arith in
    let y : w.busy ≡ w.busy + 0 = omega arith in
    record {
      eventful = w.eventful;
      busy = w.busy;
      counted = (w.eventful, w.busy, 0, 0, all, (refl, refl), x, y);
      adds = record { ticks = w.counts first; few = few; calls = omega (arith, w.calls) };
    }

-- memory is wanting
pub way_some : (state : CoreState) (to : ℕ) (kept next : KeptCore) (old mid new : Tally) → kept.sim.tick < to → IsEventful (moment_of state) → mid.eventful < limit →
    (w : IsOnWay state to kept old mid) → Turns false (advanced state w.tick) to next mid.calls new.calls → new.eventful ≡ mid.eventful →
    WentSome 0 state (going_to to ∷ []) old new
way_some state to kept next old mid new ahead first few w u same =
    let before : w.tick < to = omega (arith, ahead, way_tick state to kept old mid w) in
    let onward : w.tick ≤ u.tick = omega (arith, u.from_now, at_tick state w.tick w.from_now) in
    let none : u.eventful ≡ 0 = u.counts (eventful_next state to kept old mid w before first) in
    record {
      eventful = w.eventful + u.eventful;
      busy = w.busy + u.busy;
      part = record {
        front = [];
        rest = going_to to ∷ [];
        split = refl;
        early = 0;
        work = 0;
        counted = (refl, refl);
        ticks = u.tick - state.box.stands.tick;
        within = omega (arith, u.within);
        late = w.eventful + u.eventful;
        more = w.busy + u.busy;
        run = run_on state w.tick u.tick w.eventful w.busy u.eventful u.busy w.from_now onward w.run u.run;
        all_eventful = omega arith;
        all_busy = omega arith;
      };
      adds = record {
        ticks = omega (arith, same, none, w.counts first);
        few = omega (arith, same, few);
        calls = omega (arith, w.calls, u.calls);
      };
    }

-- the limit
pub way_limit : (state : CoreState) (to : ℕ) (kept : KeptCore) (old new : Tally) → kept.sim.tick < to → IsEventful (moment_of state) → new.eventful + 1 ≡ limit →
    IsOnWay state to kept old new → WentTo kept.sim.tick 0 state (going_to to ∷ []) old new
way_limit state to kept old new ahead first last w =
    let at : w.tick ≡ kept.sim.tick = sym (way_tick state to kept old new w) in
    let before : w.tick < to = omega (arith, at, ahead) in
    record {
      to = to;
      rest = [];
      split = refl;
      from_now = omega (arith, at, w.from_now);
      below = ahead;
      eventful = w.eventful;
      busy = w.busy;
      run = subst (λ t. Run (t - state.box.stands.tick) (moment_of state) w.eventful w.busy) at w.run;
      next = subst (λ t. IsEventful (moment_of (advanced state t))) at (eventful_next state to kept old new w before first);
      adds = record { ticks = w.counts first; few = omega (arith, last); calls = omega (arith, w.calls) };
      last = last;
    }
