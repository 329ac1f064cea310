use Rattle.std.proofs.Common.{◌∙◌, ap, arith}
use Rattle.pb_model.specs.Arming.{is_capture_idle, idle_after}
use Rattle.pb_going.specs.Sims.{Going, now_of}
use Rattle.pb_jump.proofs.CaptureLemmas.{captures_first, captures_jump, captures_still, captures_eventful}
use Rattle.pb_jump.proofs.AdvancingLemmas.{captures_same, stays_idle, taken_idle, over_now}
use Rattle.pb_jump.proofs.sims.Sim.capture.Goals as goal

pub loop-self-init : goal.loop-self-init
loop-self-init g c =
    record {
      onward = c.requires.onward;
      few = omega arith;
      known = c.requires.known;
      idle = c.requires.busy;
      comes = λ start h. captures_first start c.args.self.now c.args.records.now c.args.steps.now h;
    }

pub loop-self-preserved-then-is_quiet : goal.loop-self-preserved-then-is_quiet
loop-self-preserved-then-is_quiet g c =
    let inv = c.loop-self.invariant in
    record {
      onward = c.jump.ensures.within;
      few = inv.few;
      known = c.jump.ensures.known;
      idle = c.jump.ensures.idle ∙ inv.idle;
      comes = λ start h.
          captures_jump start c.loop-self.self c.jump.new.self c.loop-self.count c.loop-self.completed c.args.records.now c.loop-self.records c.args.steps.now
          c.loop-self.steps (inv.comes start h) c.jump.ensures.moved;
    }

pub loop-self-preserved-then-is_eventful : goal.loop-self-preserved-then-is_eventful
loop-self-preserved-then-is_eventful g c =
    let inv = c.loop-self.invariant in
    let idle = is_capture_idle (now_of c.loop-self.self).blocks in
    record {
      onward = omega (arith, c.step-emit.ensures.tick, c.loop-self-test.true, ap (λ (x : Going). x.tick) c.self.view_is);
      few = omega (arith, inv.few, c.if-count-most.false);
      known = c.step-emit.ensures.known;
      idle =
          c.step-emit.ensures.idle
          ∙ (ap (λ b. idle_after c.step-emit.result b) inv.idle
          ∙ taken_idle c.step-emit.result c.loop-self.completed c.take-completed.result c.has_room.new.records c.take-completed.new.records c.take-completed.ensures);
      comes = λ start h.
          captures_eventful start c.loop-self.self c.step-emit.new.self c.loop-self.count c.loop-self.completed c.args.records.now c.has_room.new.records
          c.args.steps.now c.loop-self.steps
          (captures_same start c.loop-self.self c.loop-self.count c.loop-self.completed c.args.records.now c.loop-self.records c.has_room.new.records
          c.args.steps.now c.loop-self.steps (inv.comes start h) c.has_room.ensures.same)
          c.step-emit.new.steps (λ moment a. c.is_eventful.ensures.eventful moment a c.if-is_eventful.true) c.step-emit.ensures.tick
          c.take-completed.result c.take-completed.new.records c.step-emit.result
          (over_now idle c.loop-self.completed c.step-emit.result inv.idle c.step-emit.ensures.quiet) c.step-emit.ensures.moved c.take-completed.ensures;
    }

pub loop-self-preserved : goal.loop-self-preserved
loop-self-preserved g c =
    let inv = c.loop-self.invariant in
    let none = c.step-nothing.ensures.emits ∙ c.is_eventful.ensures.quiet c.if-is_eventful.false in
    record {
      onward = omega (arith, c.step-nothing.ensures.tick, c.loop-self-test.true, ap (λ (x : Going). x.tick) c.self.view_is);
      few = inv.few;
      known = c.step-nothing.ensures.known;
      idle = c.step-nothing.ensures.idle ∙ (stays_idle c.step-nothing.result (is_capture_idle (now_of c.loop-self.self).blocks) none ∙ inv.idle);
      comes = λ start h.
          captures_still start c.loop-self.self c.step-nothing.new.self c.loop-self.count c.loop-self.completed c.args.records.now c.loop-self.records
          c.args.steps.now c.loop-self.steps (inv.comes start h) c.step-nothing.result c.step-nothing.new.steps none c.step-nothing.ensures.moved
          (λ moment a. c.is_eventful.ensures.still moment a c.if-is_eventful.false) c.step-nothing.ensures.tick;
    }
