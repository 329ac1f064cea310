use Rattle.std.proofs.Common.{◌≡◌, ◌+◌, drop}
use Rattle.pb_model.specs.Kept.{with_bits}
use Rattle.pb_model.proofs.shows.show_values.Given as goal

abbrev pub invariant-loop-value : goal.invariant-loop-value
invariant-loop-value l =
    record {
      shown : with_bits l.next (drop l.value-index l.values) l.tick l.buses ≡ with_bits l.entry l.values l.tick l.fn.buses;
      next : l.next ≡ l.entry + l.value-index;
    }
