use Rattle.pb_fields.proofs.OrderLemmas.{walk, every}
use Rattle.pb_fields.proofs.laws.following_visits_every_slot_once.Goals as goal

pub returns-clause-walk : goal.returns-clause-walk
returns-clause-walk c = walk

pub returns-clause-every : goal.returns-clause-every
returns-clause-every c = every
