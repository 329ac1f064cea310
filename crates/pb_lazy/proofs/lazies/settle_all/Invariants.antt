use Rattle.std.proofs.Common.{◌≡◌, ◌++◌, map, take, drop}
use Rattle.pb_lazy.specs.Lazy.{lately}
use Rattle.pb_lazy.proofs.lazies.settle_all.Given as goal

abbrev pub invariant-loop-mux : goal.invariant-loop-mux
invariant-loop-mux l = l.inputs ≡ map (lately l.ticks) (take l.mux-index l.fn.inputs) ++ drop l.mux-index l.fn.inputs
