use Rattle.pb_core.proofs.MuxedLemmas.{muxes_set}
use Rattle.pb_core.proofs.laws.muxes_are_set.Goals as goal

pub returns : goal.returns
returns c = muxes_set
