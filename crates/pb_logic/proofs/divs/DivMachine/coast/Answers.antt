use Rattle.pb_buses.proofs.CoastLemmas.{unmoved}
use Rattle.pb_logic.specs.Div as definition
use Rattle.pb_logic.proofs.DeadlineLemmas.{div_has_none}
use Rattle.pb_logic.proofs.divs.DivMachine.coast.Goals as goal

pub returns-clause-left : goal.returns-clause-left
returns-clause-left g c =
    unmoved definition.rules div_has_none c.args.inputs.now c.args.ticks c.args.tick c.args.self.now c.requires.calm
