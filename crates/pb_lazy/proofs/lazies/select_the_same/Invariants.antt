use Rattle.std.proofs.Common.{◌≡◌, map, take}
use Rattle.pb_buses.specs.Buses.{selected}
use Rattle.pb_buses.specs.Delay.{BitInput, latest}
use Rattle.pb_lazy.proofs.lazies.select_the_same.Given as goal

abbrev pub invariant-loop-mux : goal.invariant-loop-mux
invariant-loop-mux l =
    map (λ (input : BitInput). selected l.buses.bus input.select) (take l.mux-index l.inputs) ≡ map latest (take l.mux-index l.inputs)
