use Rattle.std.proofs.Common.{◌≡◌, Ok, IfOk, refl, sym, ap, subst, ◌∙◌}
use Rattle.pb_core.specs.declared.targets.Named.TheVariants as names
use Rattle.pb_core.specs.Captures.{clears, without_value, disarming}
use Rattle.pb_core.proofs.DeedLemmas.{value_done, named_left, captures_done, resets_done, armed_done, where_ok, where_err}
use Rattle.pb_core.proofs.RunLemmas.{stands_same}
use Rattle.pb_core.proofs.assignments.assign.Goals as goal

pub returns-in-Ok-Value-clause-answer : goal.returns-in-Ok-Value-clause-answer
returns-in-Ok-Value-clause-answer g c = λ state h.
    value_done c.args.core.now state c.args.target.now c.args.value.now c.in-Ok-Value.slot c.set.result h
    (sym c.named_by.ensures.named ∙ (c.in-Ok-Value.is ∙ ap (λ named. Ok named) c.in-Ok-Value.field-0-is)) c.set.ensures.answer

pub returns-in-Ok-Value-clause-core : goal.returns-in-Ok-Value-clause-core
returns-in-Ok-Value-clause-core g c = λ state h.
    named_left state c.set.new.self c.args.id c.args.target.now c.args.value.now (names.Value c.in-Ok-Value.slot)
    (sym c.named_by.ensures.named ∙ (c.in-Ok-Value.is ∙ ap (λ named. Ok named) c.in-Ok-Value.field-0-is)) (c.set.ensures.core state c.args.id h)

pub returns-in-Ok-Captures-clause-answer : goal.returns-in-Ok-Captures-clause-answer
returns-in-Ok-Captures-clause-answer g c = λ state h.
    captures_done state c.args.target.now c.args.value.now names.Captures c.clear_captures.result (without_value c.args.value.now (Ok clears))
    (sym c.named_by.ensures.named ∙ (c.in-Ok-Captures.is ∙ ap (λ named. Ok named) c.in-Ok-Captures.field-0-is)) refl c.clear_captures.ensures.answer

pub returns-in-Ok-Captures-clause-core : goal.returns-in-Ok-Captures-clause-core
returns-in-Ok-Captures-clause-core g c = λ state h.
    named_left state c.clear_captures.new.self c.args.id c.args.target.now c.args.value.now names.Captures
    (sym c.named_by.ensures.named ∙ (c.in-Ok-Captures.is ∙ ap (λ named. Ok named) c.in-Ok-Captures.field-0-is)) (c.clear_captures.ensures.core state c.args.id h)

pub returns-in-Ok-Changes-clause-answer : goal.returns-in-Ok-Changes-clause-answer
returns-in-Ok-Changes-clause-answer g c = λ state h.
    resets_done state c.args.target.now c.args.value.now c.in-Ok-Changes.group c.reset_marks.result
    (sym c.named_by.ensures.named ∙ (c.in-Ok-Changes.is ∙ ap (λ named. Ok named) c.in-Ok-Changes.field-0-is)) c.reset_marks.ensures.answer

pub returns-in-Ok-Changes-clause-core : goal.returns-in-Ok-Changes-clause-core
returns-in-Ok-Changes-clause-core g c = λ state h.
    named_left state c.reset_marks.new.self c.args.id c.args.target.now c.args.value.now (names.Changes c.in-Ok-Changes.group)
    (sym c.named_by.ensures.named ∙ (c.in-Ok-Changes.is ∙ ap (λ named. Ok named) c.in-Ok-Changes.field-0-is)) (stands_same c.reset_marks.new.self _ (c.reset_marks.ensures.core state h))

pub returns-in-Ok-Arming-clause-answer : goal.returns-in-Ok-Arming-clause-answer
returns-in-Ok-Arming-clause-answer g c = λ state h.
    subst (λ told. IfOk c.arm.result (λ given. given ≡ told))
    (armed_done c.args.core.now state c.args.target.now c.args.value.now h (sym c.named_by.ensures.named ∙ (c.in-Ok-Arming.is ∙ ap (λ named. Ok named) c.in-Ok-Arming.field-0-is)))
    (c.arm.ensures.answer state.acquisitions h.acquisitions)

pub returns-in-Ok-Arming-clause-core : goal.returns-in-Ok-Arming-clause-core
returns-in-Ok-Arming-clause-core g c = λ state h.
    where_ok c.arm.result _ _
    (named_left state c.arm.new.self c.args.id c.args.target.now c.args.value.now names.Arming
    (sym c.named_by.ensures.named ∙ (c.in-Ok-Arming.is ∙ ap (λ named. Ok named) c.in-Ok-Arming.field-0-is)))
    (c.arm.ensures.core state c.args.id h)

pub returns-in-Ok-Arming-clause-memory : goal.returns-in-Ok-Arming-clause-memory
returns-in-Ok-Arming-clause-memory g c = λ state h.
    where_err c.arm.result _ _
    (λ told. (
      (sym c.named_by.ensures.named ∙ (c.in-Ok-Arming.is ∙ ap (λ named. Ok named) c.in-Ok-Arming.field-0-is)),
      sym (armed_done c.args.core.now state c.args.target.now c.args.value.now h (sym c.named_by.ensures.named ∙ (c.in-Ok-Arming.is ∙ ap (λ named. Ok named) c.in-Ok-Arming.field-0-is))) ∙ told,
    ))
    (c.arm.ensures.memory state.acquisitions h.acquisitions)

pub returns-in-Ok-Disarming-clause-answer : goal.returns-in-Ok-Disarming-clause-answer
returns-in-Ok-Disarming-clause-answer g c = λ state h.
    captures_done state c.args.target.now c.args.value.now names.Disarming c.disarm.result (without_value c.args.value.now (disarming state.acquisitions))
    (sym c.named_by.ensures.named ∙ (c.in-Ok-Disarming.is ∙ ap (λ named. Ok named) c.in-Ok-Disarming.field-0-is)) refl (c.disarm.ensures.answer state.acquisitions h.acquisitions)

pub returns-in-Ok-Disarming-clause-core : goal.returns-in-Ok-Disarming-clause-core
returns-in-Ok-Disarming-clause-core g c = λ state h.
    named_left state c.disarm.new.self c.args.id c.args.target.now c.args.value.now names.Disarming
    (sym c.named_by.ensures.named ∙ (c.in-Ok-Disarming.is ∙ ap (λ named. Ok named) c.in-Ok-Disarming.field-0-is)) (c.disarm.ensures.core state c.args.id h)
