use Rattle.std.proofs.Common.{◌≡◌, ◌+◌, ◌-◌}
use Rattle.pb_buses.specs.Delay.{digits}
use Rattle.pb_model.specs.Tick.{bits_of}
use Rattle.pb_model.specs.Kept.{with_bits}
use Rattle.pb_model.proofs.blocks.Block.show_bits.Given as goal

abbrev pub invariant-loop-k : goal.invariant-loop-k
invariant-loop-k l =
    with_bits (l.entry + l.k) (digits (l.count - l.k) l.rest) l.tick l.buses
    ≡ with_bits l.fn.entry (bits_of l.fn.self) l.fn.tick l.fn.buses
