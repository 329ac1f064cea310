use Rattle.std.proofs.Common.{◌≡◌, take}
use Rattle.std.specs.List.{AllByRecursion}
use Rattle.pb_names.specs.declared.bit_bus.TheConstants as bit_bus
use Rattle.pb_buses.specs.Delay.{BitInput}
use Rattle.pb_lazy.proofs.same.selects_bits.Given as goal

abbrev pub invariant-loop-mux : goal.invariant-loop-mux
invariant-loop-mux l = AllByRecursion (λ (input : BitInput). input.select ≡ bit_bus.ZERO) (take l.mux-index l.inputs)
