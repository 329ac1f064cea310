use Rattle.pb_config.proofs.NumberLemmas.{one_more_agrees, cleared_agree}
use Rattle.pb_config.proofs.laws.numbers_are_of_assignments.Goals as goal

pub returns-clause-more : goal.returns-clause-more
returns-clause-more c = one_more_agrees

pub returns-clause-cleared : goal.returns-clause-cleared
returns-clause-cleared c = cleared_agree
