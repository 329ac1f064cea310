-- What a query is answered and leaves, by what its target names.
use Rattle.std.proofs.Common.{◌≡◌, ℕ, false, List, Option, Ok, Err, refl, sym, ap, subst, ◌∙◌}
use Rattle.pb_words.specs.declared.Refusal.{Refusal}
use Rattle.pb_words.specs.Refusing.{result_then}
use Rattle.pb_grammar.specs.Grammar.{Query}
use Rattle.pb_changes.specs.declared.Group.{Group}
use Rattle.pb_model.specs.Kept.{stands_of}
use Rattle.pb_core.specs.declared.events.Answer.TheVariants as answers
use Rattle.pb_core.specs.declared.targets.Named.{Named}
use Rattle.pb_core.specs.declared.targets.Named.TheVariants as names
use Rattle.pb_core.specs.Core.{CoreState}
use Rattle.pb_core.specs.Kept.{KeptCore, box_of, Agrees}
use Rattle.pb_core.specs.Naming.{named_by}
use Rattle.pb_core.specs.Sessions.{open_of}
use Rattle.pb_core.specs.Queries.{named_reply}
use Rattle.pb_core.specs.Telling.{reports_to, after_telling}
use Rattle.pb_core.specs.Answer.{replied, line_answer, asked_of}
use Rattle.pb_core.specs.Helpers.{is_report}
use Rattle.pb_core.proofs.MarkLemmas.{same_open}

-- what is named is answered as the target is
asked_reply : (core : CoreState) (id : ℕ) (target : List ℕ) (named : Named) → named_by target ≡ Ok named →
    replied (named_reply core.settings core.box.stands (open_of core.sessions) core.acquisitions (reports_to core id) named)
    ≡ line_answer core id (Query target)
asked_reply core id target named e =
    ap (λ r. replied (result_then r (named_reply core.settings core.box.stands (open_of core.sessions) core.acquisitions (reports_to core id)))) (sym e)

-- and by what is kept too
pub kept_reply : (kept : KeptCore) (core : CoreState) (id : ℕ) (target : List ℕ) (named : Named) → Agrees kept core → named_by target ≡ Ok named →
    replied (named_reply kept.config.settings (stands_of (box_of kept)) (open_of kept.sessions) core.acquisitions (reports_to core id) named)
    ≡ line_answer core id (Query target)
kept_reply kept core id target named h e =
    ap (λ s. replied (named_reply s (stands_of (box_of kept)) (open_of kept.sessions) core.acquisitions (reports_to core id) named)) h.settings
    ∙ (ap (λ b. replied (named_reply core.settings b (open_of kept.sessions) core.acquisitions (reports_to core id) named)) h.run.box.stands
    ∙ (ap (λ o. replied (named_reply core.settings core.box.stands o core.acquisitions (reports_to core id) named)) (same_open kept.sessions core.sessions h.sessions)
    ∙ asked_reply core id target named e))

-- a report
pub report_reply : (core : CoreState) (id : ℕ) (target : List ℕ) (group : Option Group) → named_by target ≡ Ok (names.Changes group) →
    answers.Reply (reports_to core id group) ≡ line_answer core id (Query target)
report_reply core id target group e = asked_reply core id target (names.Changes group) e

-- a target that names nothing
pub refused_reply : (core : CoreState) (id : ℕ) (target : List ℕ) (refusal : Refusal) → named_by target ≡ Err refusal →
    answers.Error refusal ≡ line_answer core id (Query target)
refused_reply core id target refusal e =
    ap (λ r. replied (result_then r (named_reply core.settings core.box.stands (open_of core.sessions) core.acquisitions (reports_to core id)))) (sym e)

-- What is left: a report counts as told, and else nothing changes.

pub report_left : (next : KeptCore) (core : CoreState) (id : ℕ) (target : List ℕ) (group : Option Group) → named_by target ≡ Ok (names.Changes group) →
    Agrees next (after_telling core id group) → Agrees next (asked_of core id (named_by target))
report_left next core id target group e h = subst (λ r. Agrees next (asked_of core id r)) (sym e) h

same_by : (core : CoreState) (id : ℕ) (named : Named) → is_report named ≡ false → asked_of core id (Ok named) ≡ core
same_by core id (names.Changes group) e = absurd (cc)
same_by core id named e = refl

pub other_left : (next : KeptCore) (core : CoreState) (id : ℕ) (target : List ℕ) (named : Named) → named_by target ≡ Ok named → is_report named ≡ false →
    Agrees next core → Agrees next (asked_of core id (named_by target))
other_left next core id target named e other h =
    subst (λ r. Agrees next (asked_of core id r)) (sym e) (subst (λ c. Agrees next c) (sym (same_by core id named other)) h)

pub refused_left : (next : KeptCore) (core : CoreState) (id : ℕ) (target : List ℕ) (refusal : Refusal) → named_by target ≡ Err refusal →
    Agrees next core → Agrees next (asked_of core id (named_by target))
refused_left next core id target refusal e h = subst (λ r. Agrees next (asked_of core id r)) (sym e) h
