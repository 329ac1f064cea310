use Rattle.std.proofs.Common.{◌≡◌, ◌++◌, map, take, drop}
use Rattle.pb_model.specs.Tick.{input_after}
use Rattle.pb_model.proofs.blocks.Block.push.Given as goal

abbrev pub invariant-loop-mux : goal.invariant-loop-mux
invariant-loop-mux l =
    l.mux-items ≡ map (input_after l.buses.bus) (take l.mux-index l.fn.self.bits) ++ drop l.mux-index l.fn.self.bits
