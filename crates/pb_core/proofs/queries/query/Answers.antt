use Rattle.std.proofs.Common.{◌≡◌, false, Ok, IfOk, sym, ap, subst, ◌∙◌, arith, rules}
use Rattle.pb_core.specs.Answer.{IsReply}
use Rattle.pb_core.specs.Helpers.{is_report}
use Rattle.pb_core.specs.Telling.{reports_to}
use Rattle.pb_core.proofs.DeedLemmas.{where_ok, where_err, always_ok, always_err}
use Rattle.pb_core.proofs.QueryLemmas.{kept_reply, report_reply, report_left, other_left}
use Rattle.pb_core.proofs.queries.query.Goals as goal

pub returns-in-Ok-Changes-clause-ok : goal.returns-in-Ok-Changes-clause-ok
returns-in-Ok-Changes-clause-ok g c = λ state h.
    subst (λ told. IfOk c.report.result (λ given. given ≡ told))
    (report_reply state c.args.id c.args.target.now c.in-Ok-Changes.group
    (sym c.named_by.ensures.named ∙ (c.in-Ok-Changes.is ∙ ap (λ named. Ok named) c.in-Ok-Changes.field-0-is)))
    (c.report.ensures.answer state h)

pub returns-in-Ok-Changes-clause-core : goal.returns-in-Ok-Changes-clause-core
returns-in-Ok-Changes-clause-core g c = λ state h.
    where_ok c.report.result _ _
    (report_left c.report.new.self state c.args.id c.args.target.now c.in-Ok-Changes.group
    (sym c.named_by.ensures.named ∙ (c.in-Ok-Changes.is ∙ ap (λ named. Ok named) c.in-Ok-Changes.field-0-is)))
    (c.report.ensures.core state h)

pub returns-in-Ok-Changes-clause-memory : goal.returns-in-Ok-Changes-clause-memory
returns-in-Ok-Changes-clause-memory g c = λ state h.
    always_err c.report.result _
    (subst IsReply
    (report_reply state c.args.id c.args.target.now c.in-Ok-Changes.group
    (sym c.named_by.ensures.named ∙ (c.in-Ok-Changes.is ∙ ap (λ named. Ok named) c.in-Ok-Changes.field-0-is)))
    tt)

pub returns-in-Ok : goal.returns-in-Ok
returns-in-Ok g c =
    let e = sym c.named_by.ensures.named ∙ c.in-Ok.is in
    let other : is_report c.in-Ok.named ≡ false = search rules in
    record {
      ok = λ state h.
          subst (λ told. IfOk c.asked.result (λ given. given ≡ told))
          (kept_reply c.args.core.now state c.args.id c.args.target.now c.in-Ok.named h e)
          (c.asked.ensures.ok state.acquisitions (reports_to state c.args.id) h.acquisitions);
      core = λ state h.
          always_ok c.asked.result _
          (other_left c.asked.new.core state c.args.id c.args.target.now c.in-Ok.named e other (c.asked.ensures.agrees state h));
      err = λ state h. always_err c.asked.result _ (c.asked.ensures.agrees state h);
      memory = λ state h.
          where_err c.asked.result _ _
          (subst IsReply (kept_reply c.args.core.now state c.args.id c.args.target.now c.in-Ok.named h e))
          (c.asked.ensures.memory state.acquisitions (reports_to state c.args.id) h.acquisitions);
      outdated = c.asked.ensures.outdated;
      counts = omega (arith, c.asked.ensures.counts);
    }
