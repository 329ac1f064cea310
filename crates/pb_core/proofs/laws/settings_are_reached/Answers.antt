use Rattle.pb_core.proofs.ReachedLemmas.{settings_reached}
use Rattle.pb_core.proofs.laws.settings_are_reached.Goals as goal

pub returns : goal.returns
returns c = settings_reached
