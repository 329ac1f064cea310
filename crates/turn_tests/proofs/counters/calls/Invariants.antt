use Rattle.std.proofs.Common.{◌≡◌}
use Rattle.turn_tests.proofs.counters.calls.Given as goal

abbrev pub invariant-loop : goal.invariant-loop
invariant-loop g l = (l.mine.turn ≡ l.fn.pass.turn) × (l.mine.parts ≡ l.fn.pass.parts) × (l.mine.all ≡ l.fn.pass.all)
