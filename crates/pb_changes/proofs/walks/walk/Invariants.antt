use Rattle.std.proofs.Common.{◌≡◌, ◌-◌, ◌++◌}
use Rattle.std.specs.Option.{ForSome}
use Rattle.pb_fields.specs.Order.{slots, visits}
use Rattle.pb_fields.specs.Slots.{IsSlot}
use Rattle.pb_changes.specs.Helpers.{lines_due}
use Rattle.pb_changes.proofs.walks.walk.Given as goal

-- the lines that are still to come
abbrev pub invariant-loop-step : goal.invariant-loop-step
invariant-loop-step g l =
    record {
      lines : l.text ++ lines_due l.group l.mark (g.F.Face.told l.face) (visits (2000 - l._step) l.next) ≡ l.fn.text ++ lines_due l.group l.mark (g.F.Face.told l.face) slots;
      slot : ForSome l.next (λ given. IsSlot given);
    }
