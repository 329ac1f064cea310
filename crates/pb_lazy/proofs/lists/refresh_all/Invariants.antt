use Rattle.std.proofs.Common.{◌≡◌, ◌+◌, ◌≤◌, ◌++◌, List, take, drop}
use Rattle.std.specs.Prelude.{count_by}
use Rattle.pb_lazy.specs.declared.lazies.Lazy.{Lazy}
use Rattle.pb_lazy.specs.Meeting.{AreRefreshed}
use Rattle.pb_lazy.proofs.lists.refresh_all.Given as goal

abbrev pub invariant-loop-lazy : goal.invariant-loop-lazy
invariant-loop-lazy g l =
    record {
      done : List Lazy;
      items : l.lazy-items ≡ done ++ drop l.lazy-index l.fn.lazies.items;
      refreshed : AreRefreshed (take l.lazy-index l.fn.lazies.items) done;
      counted : l.steps ≤ l.fn.steps + count_by (λ (lazy : Lazy). lazy.outdated) (take l.lazy-index l.fn.lazies.items);
    }
