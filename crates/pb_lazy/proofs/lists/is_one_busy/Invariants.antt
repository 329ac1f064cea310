use Rattle.std.proofs.Common.{false, take}
use Rattle.std.specs.List.{AllByRecursion}
use Rattle.pb_still.specs.Eventful.{IsIdle}
use Rattle.pb_lazy.specs.declared.lazies.Lazy.{Lazy}
use Rattle.pb_lazy.specs.Lazy.{saw, caught_up}
use Rattle.pb_lazy.proofs.lists.is_one_busy.Given as goal

abbrev pub invariant-loop-lazy : goal.invariant-loop-lazy
invariant-loop-lazy l =
    AllByRecursion (λ (lazy : Lazy). IsIdle l.buses.bus l.tick (saw false lazy) (caught_up l.tick lazy)) (take l.lazy-index l.lazies)
