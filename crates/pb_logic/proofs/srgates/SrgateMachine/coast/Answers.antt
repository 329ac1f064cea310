use Rattle.pb_buses.proofs.CoastLemmas.{unmoved}
use Rattle.pb_logic.specs.Srgate as definition
use Rattle.pb_logic.proofs.DeadlineLemmas.{srgate_has_none}
use Rattle.pb_logic.proofs.srgates.SrgateMachine.coast.Goals as goal

pub returns-clause-left : goal.returns-clause-left
returns-clause-left g c =
    unmoved definition.rules srgate_has_none c.args.inputs.now c.args.ticks c.args.tick c.args.self.now c.requires.calm
