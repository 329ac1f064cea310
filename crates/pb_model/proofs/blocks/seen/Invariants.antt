use Rattle.std.proofs.Common.{◌≡◌, length, map, take}
use Rattle.pb_model.specs.Tick.{seen_on}
use Rattle.pb_model.proofs.blocks.seen.Given as goal

abbrev pub invariant-loop-i : goal.invariant-loop-i
invariant-loop-i l =
    record {
      filled : take l.i l.bits ≡ map (seen_on l.buses.bus) (take l.i l.inputs);
      size : length l.bits ≡ 5;
    }
