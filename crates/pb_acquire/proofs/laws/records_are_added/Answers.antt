use Rattle.pb_acquire.proofs.KeptLemmas.{recorded_agrees, reserved_agrees}
use Rattle.pb_acquire.proofs.laws.records_are_added.Goals as goal

pub returns-clause-added : goal.returns-clause-added
returns-clause-added c = recorded_agrees

pub returns-clause-reserved : goal.returns-clause-reserved
returns-clause-reserved c = reserved_agrees
