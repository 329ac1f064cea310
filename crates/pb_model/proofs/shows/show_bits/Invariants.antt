use Rattle.std.proofs.Common.{◌≡◌, ◌+◌, length, drop}
use Rattle.std.specs.List.{flat_map}
use Rattle.pb_model.specs.Tick.{bits_of}
use Rattle.pb_model.specs.Kept.{with_bits}
use Rattle.pb_model.proofs.shows.show_bits.Given as goal

-- What is still to be shown leads where all of it leads from the start.
abbrev pub invariant-loop-block : goal.invariant-loop-block
invariant-loop-block l =
    record {
      shown : with_bits l.next (flat_map bits_of (drop l.block-index l.blocks)) l.tick l.buses
          ≡ with_bits l.entry (flat_map bits_of l.blocks) l.tick l.fn.buses;
      next : l.next + length (flat_map bits_of (drop l.block-index l.blocks)) ≡ l.entry + length (flat_map bits_of l.blocks);
    }
