use Rattle.std.proofs.Common.{◌<◌, arith}
use Rattle.pb_logic.proofs.ClockLemmas.{coast_on, coast_off}
use Rattle.pb_logic.proofs.clocks.ClockMachine.coast.Goals as goal

pub returns-then-inputs-clause-left : goal.returns-then-inputs-clause-left
returns-then-inputs-clause-left g c =
    let some : 0 < c.args.ticks = omega arith in
    coast_on c.args.inputs.now c.args.ticks c.args.tick (record { settings = c.self.inside.settings; registers = c.self.inside.registers }) c.args.self.now c.count_after-self-inside.result
    c.self.view_is c.if-inputs.true some c.requires.calm c.count_after-self-inside.ensures

pub returns-else-inputs-clause-left : goal.returns-else-inputs-clause-left
returns-else-inputs-clause-left g c =
    let some : 0 < c.args.ticks = omega arith in
    coast_off c.args.inputs.now c.args.ticks c.args.tick (record { settings = c.self.inside.settings; registers = c.self.inside.registers }) c.args.self.now
    c.self.view_is c.if-inputs.false some c.requires.calm
