use Rattle.pb_core.proofs.HoldingLemmas.{settings_hold}
use Rattle.pb_core.proofs.laws.the_box_has_the_settings.Goals as goal

pub returns : goal.returns
returns c = settings_hold
