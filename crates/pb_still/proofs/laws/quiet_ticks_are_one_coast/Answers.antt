use Rattle.pb_still.proofs.StillLemmas.{coasts, none_eventful}
use Rattle.pb_still.proofs.laws.quiet_ticks_are_one_coast.Goals as goal

pub returns-clause-coast : goal.returns-clause-coast
returns-clause-coast c n moment h = coasts n moment h

pub returns-clause-still : goal.returns-clause-still
returns-clause-still c n moment h still = none_eventful n moment h still
