use Rattle.std.proofs.Common.{refl}
use Rattle.panda_sim.proofs.benching.tell_output.Goals as goal

pub returns-in-None-clause-told : goal.returns-in-None-clause-told
returns-in-None-clause-told g c n seed asks = absurd (c.in-None.ensures.none n seed asks)

pub returns-in-None-clause-calls : goal.returns-in-None-clause-calls
returns-in-None-clause-calls g c n seed asks = absurd (c.in-None.ensures.none n seed asks)

pub returns-in-None-clause-complete : goal.returns-in-None-clause-complete
returns-in-None-clause-complete g c = λ asked fails. absurd (c.in-None.ensures.none asked.0 asked.1 asked.2)

pub returns-in-None-clause-usage : goal.returns-in-None-clause-usage
returns-in-None-clause-usage g c = (λ is asked. c.in-None.ensures.none asked.0 asked.1 asked.2, λ none. refl)
