use Rattle.std.proofs.Common.{◌≡◌, ◌++◌, replicate}
use Rattle.pb_lazy.specs.Lazy.{opening_lazy}
use Rattle.pb_jump.proofs.sims.add.Given as goal

abbrev pub invariant-loop : goal.invariant-loop
invariant-loop l = l.lazies.items ≡ l.fn.lazies.items ++ replicate l.counter (opening_lazy l.kind)
