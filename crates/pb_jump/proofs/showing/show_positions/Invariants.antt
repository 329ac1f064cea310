use Rattle.std.proofs.Common.{◌≡◌, ◌+◌, length, drop, map}
use Rattle.std.specs.List.{flat_map}
use Rattle.pb_model.specs.Tick.{positions_of}
use Rattle.pb_model.specs.Kept.{with_positions}
use Rattle.pb_going.specs.Sims.{block_in}
use Rattle.pb_jump.proofs.showing.show_positions.Given as goal

-- What is still to be shown leads where all of it leads from the start.
abbrev pub invariant-loop-lazy : goal.invariant-loop-lazy
invariant-loop-lazy l =
    record {
      shown : with_positions l.next (flat_map positions_of (drop l.lazy-index (map block_in l.lazies))) l.tick l.buses
          ≡ with_positions l.entry (flat_map positions_of (map block_in l.lazies)) l.tick l.fn.buses;
      next : l.next + length (flat_map positions_of (drop l.lazy-index (map block_in l.lazies))) ≡ l.entry + length (flat_map positions_of (map block_in l.lazies));
    }
