use Rattle.std.proofs.Common.{sym}
use Rattle.pb_buses.proofs.CoastLemmas.{coasted}
use Rattle.pb_pulse.specs.Pulse.{rules}
use Rattle.pb_pulse.proofs.machine.PulseMachine.coast.Goals as goal

pub returns-clause-left : goal.returns-clause-left
returns-clause-left g c =
    sym (coasted rules c.args.inputs.now c.args.ticks c.args.tick c.args.self.now c.requires.calm)
