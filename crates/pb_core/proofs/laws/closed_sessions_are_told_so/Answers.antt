use Rattle.pb_core.proofs.ClosedLemmas.{line_closed, bad_closed, take_closed, take_finished}
use Rattle.pb_core.proofs.laws.closed_sessions_are_told_so.Goals as goal

pub returns : goal.returns
returns c = record { line = line_closed; bad = bad_closed; taking = take_closed; finished = take_finished }
