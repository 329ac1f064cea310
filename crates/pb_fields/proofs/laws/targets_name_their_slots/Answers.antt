use Rattle.pb_fields.proofs.PrintedLemmas.{found_of-target, found_of-name}
use Rattle.pb_fields.proofs.NamedLemmas.{found_of-named}
use Rattle.pb_fields.proofs.laws.targets_name_their_slots.Goals as goal

pub returns-clause-printed : goal.returns-clause-printed
returns-clause-printed c = found_of-target

pub returns-clause-named : goal.returns-clause-named
returns-clause-named c = found_of-name

pub returns-clause-found : goal.returns-clause-found
returns-clause-found c = found_of-named
