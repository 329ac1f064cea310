use Rattle.std.proofs.Common.{◌≡◌, take, map, length}
use Rattle.pb_still.specs.Driving.{is_high}
use Rattle.pb_still.proofs.placing.levels.Given as goal

abbrev pub invariant-loop-i : goal.invariant-loop-i
invariant-loop-i l =
    record {
      filled : take l.i l.levels ≡ map is_high (take l.i l.values);
      size : length l.levels ≡ 6;
    }
