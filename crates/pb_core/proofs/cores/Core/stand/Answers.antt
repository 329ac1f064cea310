use Rattle.std.proofs.Common.{◌≡◌, sym, ap, subst, ◌∙◌}
use Rattle.pb_going.specs.Sims.{Going}
use Rattle.pb_core.specs.Kept.{KeptCore, Agrees, touched_core}
use Rattle.pb_core.specs.Costs.{CostsLittle}
use Rattle.pb_core.specs.Answer.{after_told}
use Rattle.pb_core.proofs.EventLemmas.{told_other, left_other, touched_costs}
use Rattle.pb_core.proofs.cores.Core.stand.Goals as goal

pub returns-in-Ok-clause-ok : goal.returns-in-Ok-clause-ok
returns-in-Ok-clause-ok g c = λ core h.
    told_other core c.args.event.now c.in-Ok.answer c.requires.other (c.in-Ok.ensures.ok core h)

pub returns-in-Ok-clause-core : goal.returns-in-Ok-clause-core
returns-in-Ok-clause-core g c = λ core h.
    let inside = c.self.inside in
    let of : Going → KeptCore = λ s. record { config = inside.config; sim = s; sessions = inside.sessions; acquisitions = inside.acquisitions } in
    let touched : of c.touch.new.self ≡ touched_core c.happen.new.self = ap of c.touch.ensures ∙ ap touched_core c.self.view_is in
    subst (λ k. Agrees k (after_told core c.args.event.now c.in-Ok.answer)) (sym touched)
    (left_other c.happen.new.self core c.args.event.now c.in-Ok.answer c.requires.other (c.in-Ok.ensures.core core h))

pub returns-in-Ok-clause-counts : goal.returns-in-Ok-clause-counts
returns-in-Ok-clause-counts g c =
    let inside = c.self.inside in
    let of : Going → KeptCore = λ s. record { config = inside.config; sim = s; sessions = inside.sessions; acquisitions = inside.acquisitions } in
    let touched : of c.touch.new.self ≡ touched_core c.happen.new.self = ap of c.touch.ensures ∙ ap touched_core c.self.view_is in
    subst (λ k. CostsLittle c.args.event.now c.args.self.now k c.args.steps.now c.happen.new.steps) (sym touched)
    (touched_costs c.args.event.now c.args.self.now c.happen.new.self c.args.steps.now c.happen.new.steps c.happen.ensures.counts)
