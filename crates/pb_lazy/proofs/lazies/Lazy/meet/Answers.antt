use Rattle.std.proofs.Common.{◌≡◌, ◌-◌, ◌<◌, ◌≤◌, Bool, false, sym, ap, subst, ◌∙◌, arith, inl, inr, refl}
use Rattle.std.proofs.lemmas.Bool.{false≢true}
use Rattle.pb_buses.specs.Rules.{AreCalm}
use Rattle.pb_model.specs.Units.{rules}
use Rattle.pb_model.specs.Tick.{inputs_of, or_before}
use Rattle.pb_still.specs.Eventful.{IsIdle}
use Rattle.pb_lazy.specs.declared.lazies.Lazy.{Lazy}
use Rattle.pb_lazy.specs.Lazy.{saw, caught_up, IsSound}
use Rattle.pb_lazy.proofs.MeetLemmas.{quiet_is_met, is_idle, not_idle, idle_met, step_met, step_emits}
use Rattle.pb_lazy.proofs.lazies.Lazy.meet.Goals as goal

pub returns-then-is_plain : goal.returns-then-is_plain
returns-then-is_plain g c =
    let old : Lazy = c.args.self.now in
    let bus = c.args.buses.now.bus in
    let tick = c.args.tick in
    let q = c.is_plain.ensures c.if-is_plain.true in
    let sound : IsSound tick false old = subst (λ (b : Bool). IsSound tick b old) q.0 c.requires.sound in
    let m = quiet_is_met bus tick old sound q.1 in
    record {
      met = m.0;
      emits = ap (or_before c.args.emit.now) (sym m.1.calm.quiet);
      counts = inl (subst (λ (b : Bool). IsIdle bus tick (saw b old) (caught_up tick old)) (sym q.0) m.1, refl);
    }

pub push-requires : goal.push-requires
push-requires g c = record { at = c.requires.sound.at; small = omega (arith, c.requires.tick) }

pub returns-then-goes_on : goal.returns-then-goes_on
returns-then-goes_on g c =
    let old : Lazy = c.args.self.now in
    let mid : Lazy = c.push.new.self in
    let bus = c.args.buses.now.bus in
    let tick = c.args.tick in
    let all = c.goes_on.ensures.0 c.if-goes_on.true in
    let sound : IsSound tick false old = subst (λ (b : Bool). IsSound tick b old) all.0 c.requires.sound in
    let before : tick < old.due = subst (λ (n : _). tick < n) (ap (λ (l : Lazy). l.due) c.push.ensures.left) all.1 in
    let same : inputs_of bus (caught_up tick old) ≡ old.kept =
    sym c.look-inputs.ensures ∙ (all.2 ∙ ap (λ (l : Lazy). l.kept) c.push.ensures.left) in
    let idle = is_idle bus tick old sound c.requires.known before same in
    record {
      met = idle_met bus tick old mid sound c.requires.known before same c.push.ensures;
      emits = ap (or_before c.args.emit.now) (sym idle.calm.quiet);
      counts = inl (subst (λ (b : Bool). IsIdle bus tick (saw b old) (caught_up tick old)) (sym all.0) idle, refl);
    }

pub step-requires : goal.step-requires
step-requires g c =
    let tick = c.args.tick in
    record {
      own = subst (λ (l : Lazy). l.own ≤ tick) (sym c.push.ensures.left) c.requires.sound.own;
      calm =
          subst (λ (l : Lazy). AreCalm rules l.kept l.own (tick - l.own) l.block.unit) (sym c.push.ensures.left) c.requires.sound.calm;
      tick = c.requires.tick;
    }

pub returns : goal.returns
returns g c =
    let old : Lazy = c.args.self.now in
    let mid : Lazy = c.push.new.self in
    let new : Lazy = c.step.new.self in
    let bus = c.args.buses.now.bus in
    let tick = c.args.tick in
    record {
      met = step_met bus tick c.args.first old mid new c.look-inputs.result c.requires.sound c.push.ensures c.look-inputs.ensures c.step.ensures.stepped;
      emits =
          step_emits bus tick c.args.first old mid new c.look-inputs.result c.requires.sound c.push.ensures c.look-inputs.ensures c.step.ensures.stepped
          c.args.emit.now c.step.new.emit c.step.ensures.emits;
      counts =
          inr (
            not_idle bus tick c.args.first old c.requires.sound c.requires.known (omega (arith, c.requires.tick)) (λ all.
                false≢true (sym c.if-goes_on.false
                ∙ c.goes_on.ensures.1 (
                  all.0,
                  subst (λ (l : Lazy). tick < l.due) (sym c.push.ensures.left) all.1,
                  c.look-inputs.ensures ∙ (all.2 ∙ ap (λ (l : Lazy). l.kept) (sym c.push.ensures.left)),
                ))),
            c.step.ensures.counts,
          );
    }
