use Rattle.std.proofs.Common.{refl}
use Rattle.std.specs.Int.{int_wrap}
use Rattle.capture_tests.proofs.laws.sums_wrap.Goals as goal

pub returns-clause-up : goal.returns-clause-up
unfolding int_wrap
returns-clause-up c = refl

pub returns-clause-down : goal.returns-clause-down
unfolding int_wrap
returns-clause-down c = refl
