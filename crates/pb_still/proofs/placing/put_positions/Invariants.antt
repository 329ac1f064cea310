use Rattle.std.proofs.Common.{◌≡◌, drop}
use Rattle.pb_model.specs.Kept.{with_positions}
use Rattle.pb_still.proofs.placing.put_positions.Given as goal

abbrev pub invariant-loop-value : goal.invariant-loop-value
invariant-loop-value l =
    record {
      shown : with_positions l.next (drop l.value-index l.values) l.tick l.buses ≡ with_positions 0 l.values l.tick l.fn.buses;
      next : l.next ≡ l.value-index;
    }
