use Rattle.pb_core.proofs.NamingLemmas.{unknown_star}
use Rattle.pb_core.proofs.laws.unknown_star_targets_are_no_fields.Goals as goal

pub returns : goal.returns
returns c = unknown_star
