use Rattle.std.proofs.Common.{refl}
use Rattle.pb_pulse.specs.Train.{is_on}
use Rattle.pb_pulse.proofs.laws.pulses_by_example.Goals as goal

pub returns-clause-delay : goal.returns-clause-delay
unfolding is_on
returns-clause-delay c = refl

pub returns-clause-rises : goal.returns-clause-rises
unfolding is_on
returns-clause-rises c = refl

pub returns-clause-last : goal.returns-clause-last
unfolding is_on
returns-clause-last c = refl
