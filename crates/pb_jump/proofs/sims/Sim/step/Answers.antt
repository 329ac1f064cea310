use Rattle.std.proofs.Common.{◌≡◌, ◌+◌, ◌<◌, ◌-◌, ◌^◌, List, map, sym, ap, subst, ◌∙◌, arith}
use Rattle.pb_model.specs.Machines.{machine_kinds}
use Rattle.pb_model.specs.Tick.{kind_of, emitted_of}
use Rattle.pb_model.specs.Kept.{stands_of, buses_with}
use Rattle.pb_model.specs.Arming.{is_capture_idle, idle_after}
use Rattle.pb_lazy.specs.declared.Lazy.{Lazy}
use Rattle.pb_going.specs.Sims.{Going, going, Agrees, AreKnown, now_of, block_in}
use Rattle.pb_going.proofs.StepLemmas.{stepped, goes_on, values_later, past_later}
use Rattle.pb_jump.proofs.ShowLemmas.{kinds_in}
use Rattle.pb_jump.proofs.SteppingLemmas.{step_idle, step_quiet}
use Rattle.pb_jump.proofs.sims.Sim.step.Goals as goal

pub meet_all-emit-requires : goal.meet_all-emit-requires
meet_all-emit-requires g c =
    record {
      sound = c.self.invariant.0.sound;
      known = subst AreKnown (sym c.self.view_is) c.requires.known;
      tick = subst (λ (x : Going). x.tick < 2 ^ 62 - 1) (sym c.self.view_is) c.requires.small;
    }

pub show-requires : goal.show-requires
show-requires g c =
    let s = c.self.inside in
    let was : Going = going s.stimulus s.tick s.buses s.settings s.lazies.items s.first s.stood in
    let stays = goes_on was s.buses c.meet_all-emit.new.lazies.items c.meet_all-emit.result _ _ c.self.invariant.0 c.meet_all-emit.ensures in
    record {
      kinds =
          subst (λ (l : List Lazy). map kind_of (map block_in l) ≡ machine_kinds) (sym c.deref.ensures.value)
          (kinds_in (s.tick + 1) c.meet_all-emit.new.lazies.items ∙ stays.whole.kinds);
      four = stays.whole.four;
    }

pub put_rows-self-inside-requires : goal.put_rows-self-inside-requires
put_rows-self-inside-requires g c =
    let s = c.self.inside in
    record {
      within = c.self.invariant.1.within;
      past = past_later s.stimulus s.place s.values s.tick (s.tick + 1) c.self.invariant.1 (omega arith);
      levels = values_later s.stimulus s.place s.values s.tick (s.tick + 1) c.self.invariant.1 (omega arith);
      small = omega (arith, subst (λ (x : Going). x.tick < 2 ^ 62 - 1) (sym c.self.view_is) c.requires.small);
    }

pub invariant_of-self : goal.invariant_of-self
invariant_of-self g c =
    let s = c.self.inside in
    let was : Going = going s.stimulus s.tick s.buses s.settings s.lazies.items s.first s.stood in (
      goes_on was c.put_values.new.buses c.meet_all-emit.new.lazies.items c.meet_all-emit.result _ _ c.self.invariant.0 c.meet_all-emit.ensures,
      c.put_rows-self-inside.ensures,
    )

pub returns-clause-emits : goal.returns-clause-emits
returns-clause-emits g c = c.meet_all-emit.ensures.emits ∙ ap (λ (x : Going). emitted_of (stands_of (now_of x))) c.self.view_is

pub returns-clause-moved : goal.returns-clause-moved
returns-clause-moved g c = λ moment h.
    let s = c.self.inside in
    let was : Going = going s.stimulus s.tick s.buses s.settings s.lazies.items s.first s.stood in
    stepped was moment (subst (λ (x : Going). Agrees x moment) (sym c.self.view_is) h)
    c.self.invariant.0 c.meet_all-emit.new.lazies.items c.meet_all-emit.result _ _ c.meet_all-emit.ensures c.show.new.buses c.put_values.new.buses
    c.put_rows-self-inside.new.values
    (c.show.ensures ∙ ap (λ (l : List Lazy). buses_with (s.tick + 1) (map block_in l) s.settings s.buses) c.deref.ensures.value)
    c.put_rows-self-inside.ensures.levels c.put_values.ensures

pub returns-clause-idle : goal.returns-clause-idle
returns-clause-idle g c =
    let s = c.self.inside in
    let was : Going = going s.stimulus s.tick s.buses s.settings s.lazies.items s.first s.stood in
    step_idle was c.meet_all-emit.new.lazies.items c.meet_all-emit.result _ _ c.self.invariant.0 c.meet_all-emit.ensures
    ∙ ap (λ (x : Going). idle_after c.meet_all-emit.result (is_capture_idle (now_of x).blocks)) c.self.view_is

pub returns-clause-quiet : goal.returns-clause-quiet
returns-clause-quiet g c = λ e.
    let s = c.self.inside in
    let was : Going = going s.stimulus s.tick s.buses s.settings s.lazies.items s.first s.stood in
    step_quiet was c.meet_all-emit.new.lazies.items c.meet_all-emit.result _ _ c.self.invariant.0 c.meet_all-emit.ensures
    (ap (λ (x : Going). is_capture_idle (now_of x).blocks) c.self.view_is ∙ e)
