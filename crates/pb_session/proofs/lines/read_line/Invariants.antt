use Rattle.std.proofs.Common.{◌-◌, ◌≤◌, length}
use Rattle.pb_ports.specs.Ports.{Takes}
use Rattle.pb_session.specs.Options.{IsUnfinished}
use Rattle.pb_session.proofs.lines.read_line.Given as goal

abbrev pub invariant-loop-n : goal.invariant-loop-n
invariant-loop-n g l =
    record {
      read : Takes (g.S.Source.left l.fn.source) l.line (g.S.Source.left l.source);
      unfinished : IsUnfinished l.line;
      count : g.S.Source.faults l.fn.source ≤ g.S.Source.faults l.source;
    }

abbrev pub decreases-loop-n : goal.decreases-loop-n
decreases-loop-n g l = 4097 - length l.line
