use Rattle.pb_config.proofs.AssignedLemmas.{function_there}
use Rattle.pb_config.proofs.laws.kept_function_is_the_number.Goals as goal

pub returns : goal.returns
returns c = function_there
