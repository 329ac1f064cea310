use Rattle.pb_core.proofs.DoneLemmas.{reset_given_refused}
use Rattle.pb_core.proofs.laws.refusals_come_in_order.Goals as goal

pub returns-clause-reset : goal.returns-clause-reset
returns-clause-reset c = reset_given_refused
