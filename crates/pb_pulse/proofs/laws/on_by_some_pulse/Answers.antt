use Rattle.pb_pulse.proofs.TrainLemmas.{is_on-decides}
use Rattle.pb_pulse.proofs.laws.on_by_some_pulse.Goals as goal

pub returns : goal.returns
returns c = λ tick train. is_on-decides tick train
