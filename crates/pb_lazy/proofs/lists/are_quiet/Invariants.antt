use Rattle.std.proofs.Common.{take}
use Rattle.std.specs.List.{AllByRecursion}
use Rattle.pb_lazy.specs.Lazy.{IsQuiet}
use Rattle.pb_lazy.proofs.lists.are_quiet.Given as goal

abbrev pub invariant-loop-lazy : goal.invariant-loop-lazy
invariant-loop-lazy l = AllByRecursion (IsQuiet l.buses.bus l.tick) (take l.lazy-index l.lazies)
