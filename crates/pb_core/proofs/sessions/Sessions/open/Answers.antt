use Rattle.std.proofs.Common.{◌-◌, Some, sym, subst}
use Rattle.pb_changes.specs.Report.{opening}
use Rattle.pb_core.specs.Kept.{AreKept}
use Rattle.pb_core.specs.Sessions.{with_session}
use Rattle.pb_core.proofs.MarkLemmas.{one_kept}
use Rattle.pb_core.proofs.sessions.Sessions.open.Goals as goal

pub returns : goal.returns
returns c = λ sessions all.
    subst (λ k. AreKept k (with_session c.args.id (Some opening) sessions)) (sym c.keep.ensures)
    (one_kept c.args.self.now sessions (c.args.id - 1) (Some c.new.result) (Some opening) c.new.ensures all)
