use Rattle.std.proofs.Common.{◌≡◌, ◌++◌, List, take, drop}
use Rattle.pb_lazy.specs.declared.lazies.Lazy.{Lazy}
use Rattle.pb_lazy.specs.Meeting.{MetSoFar}
use Rattle.pb_lazy.proofs.lists.meet_all.Given as goal

abbrev pub invariant-loop-lazy : goal.invariant-loop-lazy
invariant-loop-lazy g l =
    record {
      done : List Lazy;
      items : l.lazy-items ≡ done ++ drop l.lazy-index l.fn.lazies.items;
      met : MetSoFar l.buses.bus l.tick l.first (take l.lazy-index l.fn.lazies.items) done l.emit l.fn.steps l.steps;
    }
