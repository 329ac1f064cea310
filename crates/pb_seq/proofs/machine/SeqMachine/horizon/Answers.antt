use Rattle.std.proofs.Common.{rules, ◌≡◌, ℕ, ◌-◌, true, false, Some, None, subst}
use Rattle.pb_buses.specs.Rules.{IsHorizon}
use Rattle.pb_seq.specs.Seq.{Sequencer}
use Rattle.pb_seq.specs.Seq as definition
use Rattle.pb_seq.specs.Parts.{AreStill, is_in_phase}
use Rattle.pb_seq.proofs.DeadlineLemmas.{horizon_none, horizon_some}
use Rattle.pb_seq.proofs.machine.SeqMachine.horizon.Goals as goal

pub returns-then-is_in_phase-clause-horizon : goal.returns-then-is_in_phase-clause-horizon
returns-then-is_in_phase-clause-horizon g c =
    let inputs = c.args.inputs.now in
    let r = c.self.inside.registers in
    let now : Sequencer = record { settings = c.self.inside.settings; registers = r; table = c.self.inside.rows } in
    let still : AreStill now.settings now.table r inputs = search rules in
    let inside : is_in_phase r.state ≡ true = search rules in
    let left : r.ticks_left - 1 ≡ c.from.result = search rules in
    let known : Sequencer → Type 0 =
    λ x. IsHorizon definition.rules inputs c.args.tick x (Some (r.ticks_left - 1)) in
    let told : ℕ → Type 0 = λ n. IsHorizon definition.rules inputs c.args.tick c.args.self.now (Some n) in
    subst told left (subst known c.self.view_is (horizon_some inputs c.args.tick now still inside))

pub returns-else-is_in_phase-clause-horizon : goal.returns-else-is_in_phase-clause-horizon
returns-else-is_in_phase-clause-horizon g c =
    let inputs = c.args.inputs.now in
    let r = c.self.inside.registers in
    let now : Sequencer = record { settings = c.self.inside.settings; registers = r; table = c.self.inside.rows } in
    let still : AreStill now.settings now.table r inputs = search rules in
    let outside : is_in_phase r.state ≡ false = search rules in
    let known : Sequencer → Type 0 = λ x. IsHorizon definition.rules inputs c.args.tick x None in
    subst known c.self.view_is (horizon_none inputs c.args.tick now still outside)
