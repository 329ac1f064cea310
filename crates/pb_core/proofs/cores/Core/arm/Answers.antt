use Rattle.std.proofs.Common.{◌≡◌, ◌==◌, true, length, refl, sym, ap, subst, rules}
use Rattle.pb_acquire.specs.Kept as acquire
use Rattle.pb_core.specs.Kept.{KeptCore, Agrees}
use Rattle.pb_core.proofs.CaptureLemmas.{armed_stands, refused_stands}
use Rattle.pb_core.proofs.cores.Core.arm.Goals as goal

pub returns-in-Ok-clause-core : goal.returns-in-Ok-clause-core
returns-in-Ok-clause-core g c = λ core id h.
    let inside = c.self.inside in
    let kept : KeptCore = record { config = inside.config; sim = inside.sim; sessions = inside.sessions; acquisitions = inside.acquisitions } in
    let next : KeptCore = record { config = inside.config; sim = c.change.new.self; sessions = inside.sessions; acquisitions = c.arm.new.self } in
    let empty : (length c.args.value.now == 0) ≡ true = search rules in
    armed_stands kept next core id c.in-Ok.room c.args.value.now c.layout.result empty c.layout.ensures refl refl c.in-Ok.ensures.room
    c.change.ensures.agrees c.in-Ok.ensures.ok (subst (λ k. Agrees k core) (sym c.self.view_is) h)

pub returns-in-Err-Refused-clause-core : goal.returns-in-Err-Refused-clause-core
returns-in-Err-Refused-clause-core g c = λ core id h.
    let inside = c.self.inside in
    let kept : KeptCore = record { config = inside.config; sim = inside.sim; sessions = inside.sessions; acquisitions = inside.acquisitions } in
    let next : KeptCore = record { config = inside.config; sim = inside.sim; sessions = inside.sessions; acquisitions = c.arm.new.self } in
    let empty : (length c.args.value.now == 0) ≡ true = search rules in
    refused_stands kept next core id c.args.value.now c.layout.result c.in-Err-Refused.field-0 c.in-Err-Refused.refusal empty c.layout.ensures
    (ap (λ (a : acquire.Kept). record kept { acquisitions = a }) c.in-Err-Refused.ensures.err) c.in-Err-Refused.field-0-is c.in-Err-Refused.ensures.fault
    (subst (λ k. Agrees k core) (sym c.self.view_is) h)
