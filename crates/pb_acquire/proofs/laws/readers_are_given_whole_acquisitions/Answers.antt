use Rattle.pb_acquire.proofs.EventLemmas.{given_since_opened}
use Rattle.pb_acquire.proofs.laws.readers_are_given_whole_acquisitions.Goals as goal

pub returns : goal.returns
returns c = given_since_opened
