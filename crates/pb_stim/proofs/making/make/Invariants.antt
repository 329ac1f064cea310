use Rattle.std.proofs.Common.{◌≡◌, ◌+◌, ◌*◌, ◌≤◌, ◌++◌}
use Rattle.pb_stim.specs.Making.{drawn, tick_of, settings, points}
use Rattle.pb_stim.proofs.making.make.Given as goal

abbrev pub invariant-loop-i : goal.invariant-loop-i
invariant-loop-i l =
    record {
      text : l.text ≡ settings ++ points l.seed l._i;
      drawn : l.x ≡ drawn l.seed l._i;
      tick : l.tick ≡ tick_of l.seed l._i;
      near : l.tick ≤ 10 + 1025 * l._i;
    }
