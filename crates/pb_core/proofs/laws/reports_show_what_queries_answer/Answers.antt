use Rattle.pb_core.proofs.ShownLemmas.{shown_is_answered}
use Rattle.pb_core.proofs.laws.reports_show_what_queries_answer.Goals as goal

pub returns : goal.returns
returns c = shown_is_answered
