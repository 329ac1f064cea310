use Rattle.std.proofs.Common.{◌≡◌, length, map, take}
use Rattle.pb_model.specs.Tick.{seen_on}
use Rattle.pb_lazy.specs.Lazy.{lately}
use Rattle.pb_lazy.proofs.lazies.seen_late.Given as goal

abbrev pub invariant-loop-i : goal.invariant-loop-i
invariant-loop-i l =
    record {
      filled : take l.i l.bits ≡ map (seen_on l.buses.bus) (map (lately l.ticks) (take l.i l.inputs));
      size : length l.bits ≡ 5;
    }
