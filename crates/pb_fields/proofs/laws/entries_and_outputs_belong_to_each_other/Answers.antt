use Rattle.pb_fields.proofs.EntryLaws.{at_entry-entry, entry-at_entry, entry-is_some}
use Rattle.pb_fields.proofs.laws.entries_and_outputs_belong_to_each_other.Goals as goal

pub returns-clause-at : goal.returns-clause-at
returns-clause-at c = at_entry-entry

pub returns-clause-of : goal.returns-clause-of
returns-clause-of c = entry-at_entry

pub returns-clause-outputs : goal.returns-clause-outputs
returns-clause-outputs c = entry-is_some
