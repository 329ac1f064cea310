use Rattle.std.proofs.Common.{◌≡◌, ◌==◌, true, length, refl, sym, subst, rules}
use Rattle.pb_core.specs.Kept.{KeptCore, Agrees}
use Rattle.pb_core.proofs.CaptureLemmas.{disarmed_stands}
use Rattle.pb_core.proofs.cores.Core.disarm.Goals as goal

pub returns-clause-core : goal.returns-clause-core
returns-clause-core g c = λ core id h.
    let inside = c.self.inside in
    let kept : KeptCore = record { config = inside.config; sim = inside.sim; sessions = inside.sessions; acquisitions = inside.acquisitions } in
    let next : KeptCore = record { config = inside.config; sim = c.change.new.self; sessions = inside.sessions; acquisitions = c.disarm.new.self } in
    let empty : (length c.args.value.now == 0) ≡ true = search rules in
    disarmed_stands kept next core id c.args.value.now empty refl refl c.change.ensures.agrees c.in_default.ensures.ok
    (subst (λ k. Agrees k core) (sym c.self.view_is) h)
