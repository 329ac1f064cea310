use Rattle.std.proofs.Common.{◌∙◌, [], ap, arith}
use Rattle.pb_model.specs.Arming.{is_capture_idle}
use Rattle.pb_going.specs.Sims.{Going, now_of}
use Rattle.pb_going.proofs.AdvanceLemmas.{comes_first, comes_jump}
use Rattle.pb_jump.proofs.AdvancingLemmas.{goes_eventful, goes_still, stays_idle}
use Rattle.pb_jump.proofs.sims.Sim.go.Goals as goal

pub loop-self-init : goal.loop-self-init
loop-self-init g c =
    record {
      onward = c.requires.onward;
      few = omega arith;
      known = c.requires.known;
      idle = c.requires.idle;
      comes = λ start h. comes_first start c.args.self.now c.args.steps.now h;
    }

pub loop-self-preserved-then-is_quiet : goal.loop-self-preserved-then-is_quiet
loop-self-preserved-then-is_quiet g c =
    let inv = c.loop-self.invariant in
    record {
      onward = c.jump.ensures.within;
      few = inv.few;
      known = c.jump.ensures.known;
      idle = c.jump.ensures.idle ∙ inv.idle;
      comes = λ start h.
          comes_jump start c.loop-self.self c.jump.new.self c.loop-self.count [] c.args.steps.now c.loop-self.steps (inv.comes start h) c.jump.ensures.moved;
    }

pub loop-self-preserved-then-is_eventful : goal.loop-self-preserved-then-is_eventful
loop-self-preserved-then-is_eventful g c =
    let inv = c.loop-self.invariant in
    let none = c.step-none.ensures.quiet inv.idle in
    record {
      onward = omega (arith, c.step-none.ensures.tick, c.loop-self-test.true, ap (λ (x : Going). x.tick) c.self.view_is);
      few = omega (arith, inv.few, c.if-most-count.false);
      known = c.step-none.ensures.known;
      idle = c.step-none.ensures.idle ∙ (stays_idle c.step-none.result (is_capture_idle (now_of c.loop-self.self).blocks) none ∙ inv.idle);
      comes = λ start h.
          goes_eventful start c.loop-self.self c.step-none.new.self c.loop-self.count c.args.steps.now c.loop-self.steps c.step-none.new.steps
          (inv.comes start h) c.step-none.result none c.step-none.ensures.moved c.step-none.ensures.tick
          (λ moment a. c.is_eventful.ensures.eventful moment a c.if-is_eventful.true);
    }

pub loop-self-preserved : goal.loop-self-preserved
loop-self-preserved g c =
    let inv = c.loop-self.invariant in
    let none = c.step-none-in-loop-self.ensures.quiet inv.idle in
    record {
      onward = omega (arith, c.step-none-in-loop-self.ensures.tick, c.loop-self-test.true, ap (λ (x : Going). x.tick) c.self.view_is);
      few = inv.few;
      known = c.step-none-in-loop-self.ensures.known;
      idle = c.step-none-in-loop-self.ensures.idle ∙ (stays_idle c.step-none-in-loop-self.result (is_capture_idle (now_of c.loop-self.self).blocks) none ∙ inv.idle);
      comes = λ start h.
          goes_still start c.loop-self.self c.step-none-in-loop-self.new.self c.loop-self.count c.args.steps.now c.loop-self.steps c.step-none-in-loop-self.new.steps
          (inv.comes start h) c.step-none-in-loop-self.result none c.step-none-in-loop-self.ensures.moved c.step-none-in-loop-self.ensures.tick
          (λ moment a. c.is_eventful.ensures.still moment a c.if-is_eventful.false);
    }
