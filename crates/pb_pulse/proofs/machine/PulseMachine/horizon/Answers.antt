use Rattle.std.proofs.Common.{◌≡◌, true, [], None, arith, sym, subst, ◌∙◌}
use borrow.Author.Tests.{eqb-true, not-false}
use Rattle.pb_buses.specs.Rules.{IsHorizon}
use Rattle.pb_pulse.specs.Pulse.{Generator, rules}
use Rattle.pb_pulse.proofs.CalmLemmas.{AreKept, still_horizon, rests}
use Rattle.pb_pulse.proofs.StillLemmas.{same_level, no_trains}
use Rattle.pb_pulse.proofs.machine.PulseMachine.horizon.Goals as goal

pub returns-then-enable-clause-horizon : goal.returns-then-enable-clause-horizon
returns-then-enable-clause-horizon g c =
    let inputs = c.args.inputs.now in
    let generator : Generator =
    record { settings = c.self.inside.settings; queue = c.self.inside.queue; registers = c.self.inside.registers } in
    let kept : AreKept inputs generator =
    record { enabled = sym (same_level _ _ c.if-enable-self.false); triggered = sym (same_level _ _ c.if-inputs-self.false) } in
    subst (λ (b : Generator). IsHorizon rules inputs c.args.tick b c.still.result) c.self.view_is (
    still_horizon inputs generator c.args.tick c.still.result kept c.if-enable.true c.still.ensures)

pub returns-clause-horizon : goal.returns-clause-horizon
returns-clause-horizon g c =
    let inputs = c.args.inputs.now in
    let generator : Generator =
    record { settings = c.self.inside.settings; queue = c.self.inside.queue; registers = c.self.inside.registers } in
    let kept : AreKept inputs generator =
    record { enabled = sym (same_level _ _ c.if-enable-self.false); triggered = sym (same_level _ _ c.if-inputs-self.false) } in
    let none : c.is_empty.result ≡ true = first_of (cc c.if-not-is_empty.false, grind (arith, c.if-not-is_empty.false, not-false)) in
    let empty : c.self.inside.queue ≡ [] = no_trains c.self.inside.queue (eqb-true _ _ (sym c.is_empty.ensures ∙ none)) in
    subst (λ (b : Generator). IsHorizon rules inputs c.args.tick b None) c.self.view_is (
    rests inputs generator c.args.tick kept c.if-enable.false empty c.if-self.false)
