use Rattle.std.proofs.Common.{◌≡◌, ◌+◌, length, drop}
use Rattle.std.specs.List.{flat_map}
use Rattle.pb_model.specs.Tick.{positions_of}
use Rattle.pb_model.specs.Kept.{with_positions}
use Rattle.pb_model.proofs.shows.show_positions.Given as goal

-- What is still to be shown leads where all of it leads from the start.
abbrev pub invariant-loop-block : goal.invariant-loop-block
invariant-loop-block l =
    record {
      shown : with_positions l.next (flat_map positions_of (drop l.block-index l.blocks)) l.tick l.buses
          ≡ with_positions l.entry (flat_map positions_of l.blocks) l.tick l.fn.buses;
      next : l.next + length (flat_map positions_of (drop l.block-index l.blocks)) ≡ l.entry + length (flat_map positions_of l.blocks);
    }
