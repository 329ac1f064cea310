use Rattle.std.proofs.Common.{ap, ◌∙◌, arith}
use Rattle.pb_model.specs.Units.{rules}
use Rattle.pb_model.specs.Tick.{or_before}
use Rattle.pb_lazy.specs.declared.lazies.Lazy.{Lazy}
use Rattle.pb_lazy.proofs.CallLemmas.{stepped_is}
use Rattle.pb_lazy.proofs.lazies.Lazy.step.Goals as goal

pub returns : goal.returns
returns g c =
    record {
      stepped =
          stepped_is c.args.inputs.now c.args.tick c.args.self.now c.catch_up.new.self c.look_ahead.new.self c.step_unit.new.unit
          c.catch_up.ensures.left c.step_unit.ensures.next c.look_ahead.ensures.known;
      emits =
          c.step_unit.ensures.emits
          ∙ ap (λ (l : Lazy). or_before c.args.emit.now (rules.emitted l.block.unit c.args.inputs.now c.args.tick)) c.catch_up.ensures.left;
      counts = omega (arith, c.catch_up.ensures.one, c.step_unit.ensures.counts, c.look_ahead.ensures.counts);
    }
