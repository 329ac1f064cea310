use Rattle.std.proofs.Common.{◌≡◌, ◌≤◌, vec_len}
use Rattle.panda_sim.proofs.serving.open_doors.Given as goal

abbrev pub invariant-loop : goal.invariant-loop
invariant-loop g l =
    record {
      many : vec_len l.doors ≡ l.counter;
      count : g.N.Listen.faults l.fn.net ≤ g.N.Listen.faults l.net;
    }
