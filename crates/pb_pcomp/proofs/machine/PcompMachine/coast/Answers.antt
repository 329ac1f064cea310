use Rattle.pb_buses.proofs.CoastLemmas.{unmoved}
use Rattle.pb_pcomp.specs.Pcomp.{rules}
use Rattle.pb_pcomp.proofs.DeadlineLemmas.{has_none}
use Rattle.pb_pcomp.proofs.machine.PcompMachine.coast.Goals as goal

pub returns-clause-left : goal.returns-clause-left
returns-clause-left g c = unmoved rules has_none c.args.inputs.now c.args.ticks c.args.tick c.args.self.now c.requires.calm
