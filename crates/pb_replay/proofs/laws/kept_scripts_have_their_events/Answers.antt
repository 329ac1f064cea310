use Rattle.pb_replay.proofs.OutputLemmas.{same_events}
use Rattle.pb_replay.proofs.laws.kept_scripts_have_their_events.Goals as goal

pub returns : goal.returns
returns c = same_events
