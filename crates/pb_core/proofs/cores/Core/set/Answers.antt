use Rattle.std.proofs.Common.{Ok, refl, sym, ap, subst, ◌∙◌}
use Rattle.pb_going.specs.Sims.{now_of}
use Rattle.pb_core.specs.Kept.{KeptCore, Agrees}
use Rattle.pb_core.proofs.CoreLemmas.{RunsBy, set_stands, told_change}
use Rattle.pb_core.proofs.cores.Core.set.Goals as goal

pub change-requires : goal.change-requires
change-requires g c =
    told_change (now_of c.self.inside.sim).blocks c.assign.result c.in-Ok-Some.change (c.in-Ok-Some.is ∙ ap (λ told. Ok told) c.in-Ok-Some.field-0-is)
    (c.assign.ensures.allowed (now_of c.self.inside.sim).blocks)

pub returns-in-Ok-Some-clause-core : goal.returns-in-Ok-Some-clause-core
returns-in-Ok-Some-clause-core g c = λ core id h.
    let inside = c.self.inside in
    let kept : KeptCore = record { config = inside.config; sim = inside.sim; sessions = inside.sessions; acquisitions = inside.acquisitions } in
    let next : KeptCore = record { config = c.assign.new.self; sim = c.change.new.self; sessions = inside.sessions; acquisitions = inside.acquisitions } in
    set_stands kept next core id c.args.slot c.args.value.now c.requires c.assign.ensures.config refl refl
    (subst (λ r. RunsBy r inside.sim c.change.new.self) (sym (c.in-Ok-Some.is ∙ ap (λ told. Ok told) c.in-Ok-Some.field-0-is) ∙ c.assign.ensures.told) c.change.ensures.agrees)
    (subst (λ k. Agrees k core) (sym c.self.view_is) h)

pub returns-in-Ok-None-clause-core : goal.returns-in-Ok-None-clause-core
returns-in-Ok-None-clause-core g c = λ core id h.
    let inside = c.self.inside in
    let kept : KeptCore = record { config = inside.config; sim = inside.sim; sessions = inside.sessions; acquisitions = inside.acquisitions } in
    let next : KeptCore = record { config = c.assign.new.self; sim = inside.sim; sessions = inside.sessions; acquisitions = inside.acquisitions } in
    set_stands kept next core id c.args.slot c.args.value.now c.requires c.assign.ensures.config refl refl
    (subst (λ r. RunsBy r inside.sim inside.sim) (sym (c.in-Ok-None.is ∙ ap (λ told. Ok told) c.in-Ok-None.field-0-is) ∙ c.assign.ensures.told) refl)
    (subst (λ k. Agrees k core) (sym c.self.view_is) h)

pub returns-in-Err-clause-core : goal.returns-in-Err-clause-core
returns-in-Err-clause-core g c = λ core id h.
    let inside = c.self.inside in
    let kept : KeptCore = record { config = inside.config; sim = inside.sim; sessions = inside.sessions; acquisitions = inside.acquisitions } in
    let next : KeptCore = record { config = c.assign.new.self; sim = inside.sim; sessions = inside.sessions; acquisitions = inside.acquisitions } in
    set_stands kept next core id c.args.slot c.args.value.now c.requires c.assign.ensures.config refl refl
    (subst (λ r. RunsBy r inside.sim inside.sim) (sym c.in-Err.is ∙ c.assign.ensures.told) refl)
    (subst (λ k. Agrees k core) (sym c.self.view_is) h)
