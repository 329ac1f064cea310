use Rattle.std.proofs.Common.{◌≡◌, ◌++◌, length, map, take, drop}
use Rattle.pb_model.specs.Tick.{seen_on, input_after}
use Rattle.pb_model.proofs.blocks.take.Given as goal

abbrev pub invariant-loop-i : goal.invariant-loop-i
invariant-loop-i l =
    record {
      left : l.inputs ≡ map (input_after l.buses.bus) (take l.i l.fn.inputs) ++ drop l.i l.fn.inputs;
      filled : take l.i l.bits ≡ map (seen_on l.buses.bus) (take l.i l.fn.inputs);
      size : length l.bits ≡ 5;
    }
