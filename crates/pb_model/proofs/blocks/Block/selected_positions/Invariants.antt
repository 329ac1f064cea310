use Rattle.std.proofs.Common.{◌≡◌, length, map, take}
use Rattle.pb_buses.specs.Buses.{position}
use Rattle.pb_model.proofs.blocks.Block.selected_positions.Given as goal

abbrev pub invariant-loop-i : goal.invariant-loop-i
invariant-loop-i l =
    record {
      filled : take l.i l.positions ≡ map (position l.buses.bus) (take l.i l.self.positions);
      size : length l.positions ≡ 3;
    }
