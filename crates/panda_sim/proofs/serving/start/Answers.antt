use Rattle.std.proofs.Common.{refl, rules}
use Rattle.panda_sim.specs.Serve.{Starts}
use Rattle.panda_sim.proofs.serving.start.Goals as goal

pub returns-in-Err-Usage-clause-ends : goal.returns-in-Err-Usage-clause-ends
returns-in-Err-Usage-clause-ends g c = ((λ (s : Starts c.args.words.now). c.in-Err-Usage.ensures.usage (search rules) s.0 s.1), refl)

pub returns-in-Err-Port-clause-port_cause : goal.returns-in-Err-Port-clause-port_cause
returns-in-Err-Port-clause-port_cause g c = λ is. c.in-Err-Port.ensures.cause (search rules)
