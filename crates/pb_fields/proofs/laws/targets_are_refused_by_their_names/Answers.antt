use Rattle.pb_fields.proofs.MissingLemmas.{target_without_block, target_without_number, target_without_field, target_without_attribute}
use Rattle.pb_fields.proofs.laws.targets_are_refused_by_their_names.Goals as goal

pub returns-clause-no_block : goal.returns-clause-no_block
returns-clause-no_block c = target_without_block

pub returns-clause-no_number : goal.returns-clause-no_number
returns-clause-no_number c = target_without_number

pub returns-clause-no_field : goal.returns-clause-no_field
returns-clause-no_field c = target_without_field

pub returns-clause-no_attribute : goal.returns-clause-no_attribute
returns-clause-no_attribute c = target_without_attribute
