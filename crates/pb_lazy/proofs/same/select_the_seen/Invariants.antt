use Rattle.std.proofs.Common.{◌≡◌, map, take}
use Rattle.pb_buses.specs.Buses.{position}
use Rattle.pb_lazy.proofs.same.select_the_seen.Given as goal

abbrev pub invariant-loop-i : goal.invariant-loop-i
invariant-loop-i l = map (position l.buses.bus) (take l.i l.positions) ≡ take l.i l.kept
