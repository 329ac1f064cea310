use Rattle.std.proofs.Common.{◌≡◌}
use Rattle.pb_pcomp.proofs.DeadlineLemmas.{same_registers, compare_stays}
use Rattle.pb_pcomp.proofs.machine.PcompMachine.horizon.Goals as goal

pub returns-then-eq-clause-horizon : goal.returns-then-eq-clause-horizon
returns-then-eq-clause-horizon g c =
    let same : c.registers_after.result ≡ c.self.inside.registers = same_registers c.registers_after.result c.self.inside.registers c.if-eq.ensures in
    compare_stays c.args.inputs.now c.args.tick (record { settings = c.self.inside.settings; registers = c.self.inside.registers }) c.args.self.now c.registers_after.result
    c.self.view_is c.registers_after.ensures.value same
