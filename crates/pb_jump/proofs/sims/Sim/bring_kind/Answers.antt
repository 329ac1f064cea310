use Rattle.std.proofs.Common.{arith}
use Rattle.pb_jump.proofs.AwakeLemmas.{brought_none, brought_twice, one_more}
use Rattle.pb_jump.proofs.sims.Sim.bring_kind.Goals as goal

pub loop-before-init : goal.loop-before-init
loop-before-init g c =
    record {
      brought = brought_none c.args.self.now;
      awake = λ number from to. absurd (omega arith);
      counts = omega arith;
    }

pub loop-before-preserved : goal.loop-before-preserved
loop-before-preserved g c =
    let l = c.loop-before in
    record {
      brought = brought_twice c.args.self.now l.self c.bring.new.self l.invariant.brought c.bring.ensures.brought;
      awake =
          one_more c.args.kind l.before l.self c.bring.new.self c.bring.ensures.brought l.invariant.awake c.bring.ensures.costs.2;
      counts = omega (arith, l.invariant.counts, c.bring.ensures.costs.0);
    }
