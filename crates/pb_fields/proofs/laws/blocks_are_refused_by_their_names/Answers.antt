use Rattle.pb_fields.proofs.MissingLemmas.{block_without_name, block_without_number}
use Rattle.pb_fields.proofs.laws.blocks_are_refused_by_their_names.Goals as goal

pub returns-clause-no_block : goal.returns-clause-no_block
returns-clause-no_block c = block_without_name

pub returns-clause-no_number : goal.returns-clause-no_number
returns-clause-no_number c = block_without_number
