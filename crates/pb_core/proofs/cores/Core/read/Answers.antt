use Rattle.std.proofs.Common.{sym, subst}
use Rattle.pb_core.specs.Kept.{KeptCore, Agrees}
use Rattle.pb_core.proofs.RunLemmas.{woken}
use Rattle.pb_core.proofs.cores.Core.read.Goals as goal

pub returns-clause-agrees : goal.returns-clause-agrees
returns-clause-agrees g c = λ core h.
    let inside = c.self.inside in
    let kept : KeptCore = record { config = inside.config; sim = inside.sim; sessions = inside.sessions; acquisitions = inside.acquisitions } in
    woken kept c.peek.new.self core c.peek.ensures.agrees (subst (λ k. Agrees k core) (sym c.self.view_is) h)
