use Rattle.pb_config.proofs.ClearingLemmas.{all_captures}
use Rattle.pb_config.proofs.laws.clearing_assigns_no.Goals as goal

pub returns : goal.returns
returns c = all_captures
