use Rattle.std.proofs.Common.{IfSome}
use Rattle.pb_fields.specs.Slots.{IsSlot}
use Rattle.values_tests.proofs.config.count_of_taken.Given as goal

abbrev pub invariant-loop : goal.invariant-loop
invariant-loop g l = IfSome l.next (λ slot. IsSlot slot)
