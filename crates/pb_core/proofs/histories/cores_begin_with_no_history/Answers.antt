use Rattle.pb_core.proofs.HistoryLemmas.{stands_at_first}
use Rattle.pb_core.proofs.histories.cores_begin_with_no_history.Goals as goal

pub returns : goal.returns
returns c kept rows h known = stands_at_first kept rows h known
