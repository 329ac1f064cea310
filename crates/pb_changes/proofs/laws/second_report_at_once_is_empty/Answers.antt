use Rattle.pb_changes.proofs.LawLemmas.{second_empty, second_late}
use Rattle.pb_changes.proofs.laws.second_report_at_once_is_empty.Goals as goal

pub returns-clause-empty : goal.returns-clause-empty
returns-clause-empty c = second_empty

pub returns-clause-late : goal.returns-clause-late
returns-clause-late c = second_late
