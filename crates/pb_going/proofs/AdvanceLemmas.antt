-- An advance, part by part.
use Rattle.std.proofs.Common.{◌≡◌, ℕ, ◌+◌, ◌-◌, ◌<◌, ◌≤◌, true, List, [], ◌++◌, refl, sym, ap, subst, ◌∙◌, arith}
use Rattle.std.proofs.lemmas.List.{append-nil}
use Rattle.pb_buses.specs.declared.Emit.{Emit}
use Rattle.pb_buses.specs.Rules.{is_record}
use Rattle.pb_model.specs.Tick.{Standing, emitted_of}
use Rattle.pb_model.specs.Kept.{stands_of}
use Rattle.pb_still.specs.Eventful.{Moment, moment_after, IsEventful, IsStill, Run}
use Rattle.pb_going.specs.declared.advanced.Why.TheVariants as whys
use Rattle.pb_going.specs.declared.advanced.Advanced.{Advanced}
use Rattle.pb_going.specs.Sims.{Going, Agrees, now_of}
use Rattle.pb_going.specs.Moving.{JumpsTo, StepsTo}
use Rattle.pb_going.specs.Advanced.{something, handed_out, IsAdvanced}
use Rattle.pb_going.specs.Coming.{Comes}
use Rattle.pb_going.proofs.RunLemmas.{after_parts, run_parts, one_eventful, one_still, handed_parts, one_handed, still_hands_nothing}

-- where it stands
there : (g : Going) (moment : Moment) → Agrees g moment → moment.box.stands.tick ≡ g.tick
there g moment h = sym (ap (λ (s : Standing). s.tick) h.box.stands)

pub comes_first : (start : Moment) (g : Going) (was : ℕ) → Agrees g start → Comes start g 0 [] was was
comes_first start g was h =
    record {
      ticks = 0;
      busy = 0;
      at = omega (arith, there g start h);
      agrees = h;
      run = (refl, refl);
      handed = refl;
      few = omega arith;
    }

module _ (start : Moment) (g new : Going) (count : ℕ) (out : List Emit) (was spent : ℕ) (c : Comes start g count out was spent) where
  abbrev here : Moment
  here = moment_after c.ticks start

  pub comes_jump : ((moment : Moment) → Agrees g moment → JumpsTo moment new) → Comes start new count out was spent
  comes_jump jumps =
      let j : JumpsTo here new = jumps here c.agrees in
      let x : count + 0 ≡ count = omega arith in
      let y : c.busy + 0 ≡ c.busy = omega arith in
      record {
        ticks = c.ticks + j.ticks;
        busy = c.busy;
        at = omega (arith, j.at, c.at, there g here c.agrees);
        agrees = subst (λ (m : Moment). Agrees new m) (after_parts c.ticks j.ticks start) j.agrees;
        run =
            subst (λ n. Run (c.ticks + j.ticks) start n c.busy) x
            (subst (λ n. Run (c.ticks + j.ticks) start (count + 0) n) y (run_parts c.ticks j.ticks start count c.busy 0 0 c.run j.run));
        handed =
            handed_parts c.ticks j.ticks start
            ∙ (ap (λ l. handed_out c.ticks start ++ l) (still_hands_nothing j.ticks here 0 0 refl j.run)
            ∙ (append-nil (handed_out c.ticks start) ∙ c.handed));
        few = c.few;
      }

  step_more : (emit : Emit) (spent' more : ℕ) (s : StepsTo here new emit spent spent') → Run 1 here more s.busy →
      new.tick ≡ g.tick + 1 → Comes start new (count + more) (out ++ something emit) was spent'
  step_more emit spent' more s run at =
      record {
        ticks = c.ticks + 1;
        busy = c.busy + s.busy;
        at = omega (arith, at, c.at);
        agrees = subst (λ (m : Moment). Agrees new m) (after_parts c.ticks 1 start) s.agrees;
        run = run_parts c.ticks 1 start count c.busy more s.busy c.run run;
        handed =
            handed_parts c.ticks 1 start
            ∙ (ap (λ l. handed_out c.ticks start ++ l) (one_handed here ∙ ap something (sym s.emits))
            ∙ ap (λ l. l ++ something emit) c.handed);
        few = omega (arith, c.few, s.few);
      }

  pub comes_eventful : (emit : Emit) (spent' : ℕ) → ((moment : Moment) → Agrees g moment → StepsTo moment new emit spent spent') →
      ((moment : Moment) → Agrees g moment → IsEventful moment) → new.tick ≡ g.tick + 1 →
      Comes start new (count + 1) (out ++ something emit) was spent'
  comes_eventful emit spent' steps eventful at =
      let s : StepsTo here new emit spent spent' = steps here c.agrees in
      step_more emit spent' 1 s (one_eventful here s.busy (eventful here c.agrees) s.counted) at

  pub comes_still : (emit : Emit) (spent' : ℕ) → ((moment : Moment) → Agrees g moment → StepsTo moment new emit spent spent') →
      ((moment : Moment) → Agrees g moment → IsStill moment) → new.tick ≡ g.tick + 1 →
      Comes start new count (out ++ something emit) was spent'
  comes_still emit spent' steps still at =
      let s : StepsTo here new emit spent spent' = steps here c.agrees in
      let x : count + 0 ≡ count = omega arith in
      subst (λ n. Comes start new n (out ++ something emit) was spent') x
      (step_more emit spent' 0 s (one_still here s.busy (still here c.agrees) s.counted) at)

  -- Its ends.

  pub ends_target : (to most : ℕ) (told : Advanced) → told.reached ≡ g.tick → told.why ≡ whys.Target → g.tick ≡ to → count ≤ most →
      IsAdvanced start to most told g was spent 0
  ends_target to most told reached why at few =
      record {
        ticks = c.ticks;
        eventful = count;
        busy = c.busy;
        reached = omega (arith, reached, c.at);
        within = omega (arith, reached, at);
        run = c.run;
        few = few;
        ends = rw why (there g here c.agrees ∙ at);
        agrees = c.agrees;
        calls = omega (arith, c.few);
      }

  pub ends_events : (to most : ℕ) (told : Advanced) → told.reached ≡ g.tick → told.why ≡ whys.Events → g.tick < to → count ≡ most →
      ((moment : Moment) → Agrees g moment → IsEventful moment) → IsAdvanced start to most told g was spent 0
  ends_events to most told reached why before all eventful =
      record {
        ticks = c.ticks;
        eventful = count;
        busy = c.busy;
        reached = omega (arith, reached, c.at);
        within = omega (arith, reached, before);
        run = c.run;
        few = omega (arith, all);
        ends = rw why (omega (arith, there g here c.agrees, before), all, eventful here c.agrees);
        agrees = c.agrees;
        calls = omega (arith, c.few);
      }

  pub ends_memory : (to most : ℕ) (told : Advanced) → told.reached ≡ g.tick → told.why ≡ whys.Memory → g.tick < to → count < most →
      is_record (emitted_of (stands_of (now_of g))) ≡ true → IsAdvanced start to most told g was spent 0
  ends_memory to most told reached why before few emits =
      record {
        ticks = c.ticks;
        eventful = count;
        busy = c.busy;
        reached = omega (arith, reached, c.at);
        within = omega (arith, reached, before);
        run = c.run;
        few = omega (arith, few);
        ends = rw why (omega (arith, there g here c.agrees, before), few, ap (λ (s : Standing). is_record (emitted_of s)) (sym c.agrees.box.stands) ∙ emits);
        agrees = c.agrees;
        calls = omega (arith, c.few);
      }

-- nothing was captured
pub none_captured : (start : Moment) (g : Going) (count was spent from : ℕ) → Comes start g count [] was spent → start.box.stands.tick ≡ from →
    handed_out (g.tick - from) start ≡ []
none_captured start g count was spent from c e =
    let n : g.tick - from ≡ c.ticks = omega (arith, c.at, e) in
    ap (λ k. handed_out k start) n ∙ c.handed

-- after the deadlines were found
pub advanced_after : (start : Moment) (to most : ℕ) (told : Advanced) (new : Going) (was found spent outdated : ℕ) → found ≤ was + outdated →
    IsAdvanced start to most told new found spent 0 → IsAdvanced start to most told new was spent outdated
advanced_after start to most told new was found spent outdated h a =
    record {
      ticks = a.ticks;
      eventful = a.eventful;
      busy = a.busy;
      reached = a.reached;
      within = a.within;
      run = a.run;
      few = a.few;
      ends = a.ends;
      agrees = a.agrees;
      calls = omega (arith, a.calls, h);
    }
