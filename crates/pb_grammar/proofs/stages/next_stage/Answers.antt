use Rattle.std.proofs.Common.{[], ◌∷◌, ◌++◌, sym, subst}
use Rattle.pb_grammar.specs.Feeding.{IsNext}
use Rattle.pb_grammar.proofs.StageLemmas.{text_more, text_of_stage}
use Rattle.pb_grammar.proofs.stages.next_stage.Goals as goal

pub returns-in_default : goal.returns-in_default
returns-in_default c seen h kept =
    subst (λ b. IsNext c.after_first.result (seen ++ b ∷ [])) (sym c.if-byte-eq10.true)
    (c.after_first.ensures seen (text_of_stage c.args.stage seen h c.in_default.not-Body) kept)

pub returns-in_default-2 : goal.returns-in_default-2
returns-in_default-2 c seen h kept =
    text_more seen c.args.byte (text_of_stage c.args.stage seen h c.in_default-2.not-Body) c.if-byte-eq10.false
