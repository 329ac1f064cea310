use Rattle.std.proofs.Common.{◌≡◌, drop}
use Rattle.pb_model.specs.Kept.{with_bits}
use Rattle.pb_still.proofs.placing.put_levels.Given as goal

abbrev pub invariant-loop-level : goal.invariant-loop-level
invariant-loop-level l =
    record {
      shown : with_bits l.next (drop l.level-index l.levels) l.tick l.buses ≡ with_bits 0 l.levels l.tick l.fn.buses;
      next : l.next ≡ l.level-index;
    }
