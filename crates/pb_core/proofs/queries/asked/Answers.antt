use Rattle.std.proofs.Common.{◌≡◌, IfOk, OnErr, sym, ap, subst, ◌∙◌}
use Rattle.pb_model.specs.Kept.{stands_of}
use Rattle.pb_acquire.specs.Kept as acquire
use Rattle.pb_going.specs.Sims.{outdated}
use Rattle.pb_core.specs.Kept.{KeptCore, box_of, Agrees}
use Rattle.pb_core.specs.Sessions.{open_of}
use Rattle.pb_core.specs.Queries.{named_reply}
use Rattle.pb_core.specs.Answer.{replied, IsReply}
use Rattle.pb_core.proofs.queries.asked.Goals as goal

pub returns-clause-ok : goal.returns-clause-ok
returns-clause-ok g c = λ all reports.
    subst
    (λ (kept : KeptCore). acquire.Agrees kept.acquisitions all →
    IfOk c.named_answer.result (λ told. told ≡ replied (named_reply kept.config.settings (stands_of (box_of kept)) (open_of kept.sessions) all reports c.args.named)))
    c.empty_text-text.ensures.same (c.named_answer.ensures.ok all reports)

pub returns-clause-memory : goal.returns-clause-memory
returns-clause-memory g c = λ all reports.
    subst
    (λ (kept : KeptCore). acquire.Agrees kept.acquisitions all →
    OnErr c.named_answer.result (IsReply (replied (named_reply kept.config.settings (stands_of (box_of kept)) (open_of kept.sessions) all reports c.args.named))))
    c.empty_text-text.ensures.same (c.named_answer.ensures.memory all reports)

pub returns-clause-agrees : goal.returns-clause-agrees
returns-clause-agrees g c = λ state h.
    c.named_answer.ensures.agrees state (subst (λ kept. Agrees kept state) (sym c.empty_text-text.ensures.same) h)

pub returns-clause-outdated : goal.returns-clause-outdated
returns-clause-outdated g c =
    c.named_answer.ensures.outdated ∙ ap (λ (kept : KeptCore). outdated kept.sim) c.empty_text-text.ensures.same
