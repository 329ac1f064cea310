use Rattle.std.proofs.Common.{◌≤◌, take}
use Rattle.std.specs.Prelude.{IfSome}
use Rattle.pb_model.specs.Parts.{IsNextSight}
use Rattle.pb_model.proofs.blocks.next_sight.Given as goal

abbrev pub invariant-loop-i : goal.invariant-loop-i
invariant-loop-i l =
    record {
      next : IsNextSight l.buses.bus (take l.i l.inputs) l.first;
      few : IfSome l.first (λ n. n ≤ 31);
    }
