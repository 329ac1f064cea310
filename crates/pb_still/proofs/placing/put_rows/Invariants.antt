use Rattle.std.proofs.Common.{◌≡◌, ◌-◌, ◌≤◌, length, take}
use Rattle.std.specs.List.{AllByRecursion}
use Rattle.pb_stim.specs.declared.Row.{Row}
use Rattle.pb_still.specs.Current.{values_at}
use Rattle.pb_still.proofs.placing.put_rows.Given as goal

abbrev pub invariant-loop-next : goal.invariant-loop-next
invariant-loop-next l =
    record {
      within : l.next ≤ length l.stimulus;
      past : AllByRecursion (λ (row : Row). row.tick ≤ l.tick) (take l.next l.stimulus);
      levels : l.values ≡ values_at (take l.next l.stimulus) l.tick;
    }

abbrev pub decreases-loop-next : goal.decreases-loop-next
decreases-loop-next l = length l.stimulus - l.next
