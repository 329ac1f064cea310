use Rattle.std.proofs.Common.{ℕ, ◌<◌, ◌≤◌, take}
use Rattle.std.specs.List.{AllByRecursion}
use Rattle.pb_lazy.specs.declared.lazies.Lazy.{Lazy}
use Rattle.pb_lazy.proofs.lists.first_due.Given as goal

abbrev pub invariant-loop-lazy : goal.invariant-loop-lazy
invariant-loop-lazy l =
    record {
      within : l.first ≤ l.to;
      each : AllByRecursion (λ (lazy : Lazy). (l.first ≤ lazy.due) × (l.first ≤ lazy.turn)) (take l.lazy-index l.lazies);
      ahead : (tick : ℕ) → tick < l.to → AllByRecursion (λ (lazy : Lazy). (tick < lazy.due) × (tick < lazy.turn)) l.lazies → tick < l.first;
    }
