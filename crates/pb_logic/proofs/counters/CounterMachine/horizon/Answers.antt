use Rattle.std.proofs.Common.{◌≡◌, rules}
use Rattle.pb_logic.proofs.DeadlineLemmas.{counter_stays}
use Rattle.pb_logic.proofs.counters.CounterMachine.horizon.Goals as goal

pub returns-then-eq-clause-horizon : goal.returns-then-eq-clause-horizon
returns-then-eq-clause-horizon g c =
    let same : c.registers_after.result ≡ c.self.inside.registers = search (rules, c.if-eq.ensures) in
    counter_stays c.args.inputs.now c.args.tick (record { settings = c.self.inside.settings; registers = c.self.inside.registers }) c.args.self.now c.registers_after.result
    c.self.view_is c.registers_after.ensures same
