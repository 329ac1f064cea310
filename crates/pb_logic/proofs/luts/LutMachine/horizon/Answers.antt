use Rattle.std.specs.Cmp.{booleans_Decides}
use Rattle.pb_logic.proofs.DeadlineLemmas.{lut_stays}
use Rattle.pb_logic.proofs.luts.LutMachine.horizon.Goals as goal

pub returns-then-output_after-self-clause-horizon : goal.returns-then-output_after-self-clause-horizon
returns-then-output_after-self-clause-horizon g c =
    lut_stays c.args.inputs.now c.args.tick (record { settings = c.self.inside.settings; registers = c.self.inside.registers }) c.args.self.now c.output_after.result
    c.self.view_is c.output_after.ensures ((booleans_Decides c.output_after.result c.self.inside.registers.out).0 c.if-output_after-self.true)
