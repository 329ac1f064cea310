use Rattle.std.proofs.Common.{◌-◌, ◌≤◌, length}
use Rattle.pb_ports.specs.Ports.{Takes}
use Rattle.panda_sim.specs.Run.{TakesUpToOnePieceMore}
use Rattle.panda_sim.proofs.running.read_all.Given as goal

abbrev pub invariant-loop-piece : goal.invariant-loop-piece
invariant-loop-piece g l =
    record {
      taken : Takes (g.S.Source.left l.fn.input) l.text (g.S.Source.left l.input);
      bounded : TakesUpToOnePieceMore (g.S.Source.left l.fn.input) (g.S.Source.left l.input);
      count : g.S.Source.faults l.fn.input ≤ g.S.Source.faults l.input;
    }

abbrev pub decreases-loop-piece : goal.decreases-loop-piece
decreases-loop-piece g l = 16777217 - length l.text
