use Rattle.std.proofs.Common.{◌≡◌, take, drop, length}
use Rattle.pb_still.proofs.placing.positions.Given as goal

abbrev pub invariant-loop-i : goal.invariant-loop-i
invariant-loop-i l =
    record {
      filled : take l.i l.positions ≡ take l.i (drop 6 l.values);
      size : length l.positions ≡ 4;
    }
