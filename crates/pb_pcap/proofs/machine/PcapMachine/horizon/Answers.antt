use Rattle.std.proofs.Common.{rules, Some, None, subst}
use Rattle.pb_buses.specs.Rules.{IsHorizon}
use Rattle.pb_pcap.specs.Pcap.{Capture}
use Rattle.pb_pcap.specs.Pcap as definition
use Rattle.pb_pcap.specs.Resting.{IsSteady}
use Rattle.pb_pcap.proofs.DeadlineLemmas.{never_moves, moves_now}
use Rattle.pb_pcap.proofs.machine.PcapMachine.horizon.Goals as goal

pub returns-then-is_steady-clause-horizon : goal.returns-then-is_steady-clause-horizon
returns-then-is_steady-clause-horizon g c =
    let inputs = c.args.inputs.now in
    let now : Capture = record { settings = c.self.inside.settings; registers = c.self.inside.registers } in
    let steady : IsSteady now.registers inputs = search rules in
    subst (λ x. IsHorizon definition.rules inputs c.args.tick x None) c.self.view_is (never_moves inputs c.args.tick now steady)

pub returns-else-is_steady-clause-horizon : goal.returns-else-is_steady-clause-horizon
returns-else-is_steady-clause-horizon g c =
    let inputs = c.args.inputs.now in
    let now : Capture = record { settings = c.self.inside.settings; registers = c.self.inside.registers } in
    let moving : ¬ (IsSteady now.registers inputs) = search rules in
    subst (λ x. IsHorizon definition.rules inputs c.args.tick x (Some 0)) c.self.view_is (moves_now inputs c.args.tick now moving)
