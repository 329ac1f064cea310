use Rattle.std.proofs.Common.{◌≡◌, ◌==◌, true, length, Ok, refl, sym, subst, rules}
use Rattle.pb_core.specs.Captures.{clears}
use Rattle.pb_core.specs.Kept.{KeptCore, Agrees}
use Rattle.pb_core.proofs.CaptureLemmas.{valueless}
use Rattle.pb_core.proofs.CoreLemmas.{clears_stands}
use Rattle.pb_core.proofs.cores.Core.clear_captures.Goals as goal

pub returns-clause-core : goal.returns-clause-core
returns-clause-core c = λ core id h.
    let inside = c.self.inside in
    let kept : KeptCore = record { config = inside.config; sim = inside.sim; sessions = inside.sessions; acquisitions = inside.acquisitions } in
    let next : KeptCore = record { config = c.clear_captures.new.self; sim = inside.sim; sessions = inside.sessions; acquisitions = inside.acquisitions } in
    let empty : (length c.args.value.now == 0) ≡ true = search rules in
    valueless next core id c.args.value.now (Ok clears) empty
    (clears_stands kept next core id c.clear_captures.ensures refl refl refl (subst (λ k. Agrees k core) (sym c.self.view_is) h))
