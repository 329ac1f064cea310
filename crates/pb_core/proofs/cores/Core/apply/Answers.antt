use Rattle.std.proofs.Common.{◌≡◌, false, sym, subst, rules}
use Rattle.pb_core.specs.declared.events.Event.{Event}
use Rattle.pb_core.specs.Kept.{Agrees}
use Rattle.pb_core.specs.Answer.{IsTold, after_told}
use Rattle.pb_core.specs.Costs.{Costs}
use Rattle.pb_core.specs.Helpers.{is_advance}
use Rattle.pb_core.proofs.EventLemmas.{other_costs}
use Rattle.pb_core.proofs.cores.Core.apply.Goals as goal

pub returns-in-Advance-clause-ok : goal.returns-in-Advance-clause-ok
returns-in-Advance-clause-ok g c = λ core h.
    subst (λ (event : Event). IsTold core event c.advance.result) (sym c.in-Advance.is) (c.advance.ensures.told core h)

pub returns-in-Advance-clause-core : goal.returns-in-Advance-clause-core
returns-in-Advance-clause-core g c = λ core h.
    subst (λ (event : Event). Agrees c.advance.new.self (after_told core event c.advance.result)) (sym c.in-Advance.is) (c.advance.ensures.core core h)

pub returns-in-Advance-clause-counts : goal.returns-in-Advance-clause-counts
returns-in-Advance-clause-counts g c = λ core h.
    subst (λ (event : Event). Costs event core c.args.self.now c.advance.new.self c.args.steps.now c.advance.new.steps) (sym c.in-Advance.is) (c.advance.ensures.counts core h)

pub returns-in_default-clause-counts : goal.returns-in_default-clause-counts
returns-in_default-clause-counts g c = λ core h.
    let other : is_advance c.args.event.now ≡ false = search rules in
    other_costs c.args.event.now core c.args.self.now c.stand.new.self c.args.steps.now c.stand.new.steps other c.stand.ensures.counts
