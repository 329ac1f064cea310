use Rattle.std.proofs.Common.{rules, take}
use Rattle.panda_sim.proofs.TakenLemmas.{takes_more, bounded_more}
use Rattle.panda_sim.proofs.running.read_all.Goals as goal

pub loop-piece-preserved : goal.loop-piece-preserved
loop-piece-preserved g c =
    record {
      taken = takes_more _ _ _ c.loop-piece.text (take c.in-Some.n c.read.new.buf) _ c.loop-piece.invariant.taken c.in-Some.ensures.reads.1 (search rules);
      bounded = bounded_more _ _ _ c.loop-piece.text (take c.in-Some.n c.read.new.buf) c.loop-piece.invariant.taken c.in-Some.ensures.reads.1 (search rules) (search rules);
      count = search rules;
    }

pub returns-in-Err-clause-bounded : goal.returns-in-Err-clause-bounded
returns-in-Err-clause-bounded g c =
    bounded_more _ _ _ c.loop-piece.text (take c.in-Some.n c.read.new.buf) c.loop-piece.invariant.taken c.in-Some.ensures.reads.1 (search rules) (search rules)
