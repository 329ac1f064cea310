use Rattle.std.proofs.Common.{OnOk, sym, subst}
use Rattle.pb_changes.specs.Kept.{Keeps}
use Rattle.pb_changes.specs.Report.{after_report}
use Rattle.pb_core.specs.Kept.{KeptCore, Agrees}
use Rattle.pb_core.specs.Telling.{past_of}
use Rattle.pb_core.proofs.FaceLemmas.{face_agrees, shows_same}
use Rattle.pb_core.proofs.cores.Core.text_since.Goals as goal

pub returns-clause-marks : goal.returns-clause-marks
returns-clause-marks c = λ core reported h keeps.
    let inside = c.self.inside in
    let kept : KeptCore = record { config = inside.config; sim = inside.sim; sessions = inside.sessions; acquisitions = inside.acquisitions } in
    let agrees : Agrees kept core = subst (λ k. Agrees k core) (sym c.self.view_is) h in
    subst (λ shows. OnOk c.report.result (Keeps c.report.new.self (after_report reported (past_of core) shows c.args.group)))
    (shows_same kept core agrees) (c.report.ensures.marks (past_of core) reported (face_agrees kept core agrees) keeps)
