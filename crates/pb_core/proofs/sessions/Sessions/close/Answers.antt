use Rattle.std.proofs.Common.{◌-◌, None, sym, subst}
use Rattle.pb_core.specs.Kept.{AreKept}
use Rattle.pb_core.proofs.MarkLemmas.{one_kept}
use Rattle.pb_core.proofs.sessions.Sessions.close.Goals as goal

pub returns : goal.returns
returns c = λ sessions all.
    one_kept c.self.inside.open sessions (c.args.id - 1) None None tt (subst (λ k. AreKept k sessions) (sym c.self.view_is) all)
