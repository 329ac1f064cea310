use Rattle.std.proofs.Common.{None, subst}
use Rattle.pb_buses.specs.Rules.{IsHorizon}
use Rattle.pb_logic.specs.Clock.{rules}
use Rattle.pb_logic.proofs.ClockLemmas.{off_low}
use Rattle.pb_logic.proofs.clocks.ClockMachine.horizon.Goals as goal

pub returns-then-inputs-clause-horizon : goal.returns-then-inputs-clause-horizon
returns-then-inputs-clause-horizon g c =
    subst (λ b. IsHorizon rules c.args.inputs.now c.args.tick b c.calm_ticks.result) c.self.view_is
    (c.calm_ticks.ensures c.args.inputs.now c.args.tick c.if-inputs.true)

pub returns-else-self-clause-horizon : goal.returns-else-self-clause-horizon
returns-else-self-clause-horizon g c =
    subst (λ b. IsHorizon rules c.args.inputs.now c.args.tick b None) c.self.view_is
    (off_low c.args.inputs.now c.if-inputs.false c.args.tick (record { settings = c.self.inside.settings; registers = c.self.inside.registers }) c.if-self.false)
