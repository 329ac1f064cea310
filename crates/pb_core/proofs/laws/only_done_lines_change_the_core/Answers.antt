use Rattle.pb_core.proofs.DoneLemmas.{event_refused, event_closed, line_marked}
use Rattle.pb_core.proofs.laws.only_done_lines_change_the_core.Goals as goal

pub returns : goal.returns
returns c = record { refused = event_refused; closed = event_closed; replied = line_marked }
