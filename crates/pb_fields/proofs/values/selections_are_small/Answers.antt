use Rattle.pb_fields.proofs.SpelledLemmas.{bit_selection_small, position_selection_small}
use Rattle.pb_fields.proofs.values.selections_are_small.Goals as goal

pub returns-clause-bits : goal.returns-clause-bits
returns-clause-bits c = bit_selection_small

pub returns-clause-positions : goal.returns-clause-positions
returns-clause-positions c = position_selection_small
