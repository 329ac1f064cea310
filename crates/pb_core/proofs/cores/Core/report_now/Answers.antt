use Rattle.std.proofs.Common.{sym, ap, subst}
use Rattle.pb_changes.specs.Report.{after_report}
use Rattle.pb_core.specs.Kept.{KeptCore, Agrees}
use Rattle.pb_core.specs.Sessions.{reported_to}
use Rattle.pb_core.specs.Telling.{past_of, shows_of}
use Rattle.pb_core.proofs.MarkLemmas.{told_agrees}
use Rattle.pb_core.proofs.cores.Core.report_now.Goals as goal

pub returns-clause-core : goal.returns-clause-core
returns-clause-core c = λ core h.
    let inside = c.self.inside in
    let kept : KeptCore = record { config = inside.config; sim = inside.sim; sessions = inside.sessions; acquisitions = inside.acquisitions } in
    let agrees : Agrees kept core = subst (λ k. Agrees k core) (sym c.self.view_is) h in
    told_agrees kept (record kept { sessions = c.keep.new.self }) core c.args.id c.text_since.new.marks
    (after_report (reported_to core.sessions c.args.id) (past_of core) (shows_of core) c.args.group)
    (c.in_ok-text.ensures.marks core (reported_to core.sessions c.args.id) h (c.marks-marks.ensures core.sessions agrees.sessions))
    (ap (λ s. record kept { sessions = s }) c.keep.ensures) agrees
