use Rattle.std.proofs.Common.{take, ap, sym, ◌∙◌}
use Rattle.pb_grammar.specs.Feeding.{stage_fault}
use Rattle.pb_grammar.proofs.StageLemmas.{given, refused}
use Rattle.pb_grammar.proofs.assembling.Assembler.whole.Goals as goal

pub returns-in-Some : goal.returns-in-Some
returns-in-Some c bytes h =
    refused c.args.self.now bytes c.in-Some.refusal h
    (ap (λ k. stage_fault k.stage) (sym c.self.view_is) ∙ sym c.stage_fault.ensures ∙ c.in-Some.is)

pub returns-in-None : goal.returns-in-None
returns-in-None c bytes h =
    let all =
    given c.args.self.now bytes h
    (ap (λ k. stage_fault k.stage) (sym c.self.view_is) ∙ sym c.stage_fault.ensures ∙ c.in-None.is) in
    (ap (take c.self.inside.used) c.deref.ensures.value ∙ ap (λ k. k.bytes) c.self.view_is ∙ all.all, all.known)
