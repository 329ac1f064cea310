use Rattle.pb_buses.proofs.CoastLemmas.{unmoved}
use Rattle.pb_logic.specs.Lut as definition
use Rattle.pb_logic.proofs.DeadlineLemmas.{lut_has_none}
use Rattle.pb_logic.proofs.luts.LutMachine.coast.Goals as goal

pub returns-clause-left : goal.returns-clause-left
returns-clause-left g c =
    unmoved definition.rules lut_has_none c.args.inputs.now c.args.ticks c.args.tick c.args.self.now c.requires.calm
