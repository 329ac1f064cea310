use Rattle.std.proofs.Common.{rules, All, sym, subst, ◌∙◌, arith}
use Rattle.std.specs.Str.{IsUtf8}
use Rattle.std.proofs.lemmas.List.{take_all}
use Rattle.pb_cli.proofs.TextLemmas.{one_more, same_more}
use Rattle.pb_cli.proofs.texts.texts_of.Goals as goal

pub returns-in_default-clause-usage : goal.returns-in_default-clause-usage
returns-in_default-clause-usage c =
    λ _ all. c.in_default.ensures.cases.0 (subst IsUtf8 (sym (c.bytes.ensures ∙ c.word-item.is)) (all c.loop-word.word-index c.word-item.result c.loop-word-test.true))

pub loop-word-preserved : goal.loop-word-preserved
loop-word-preserved c = (
  search (rules, same_more c.args.words.now c.loop-word.word-index c.word-item.result c.loop-word.texts.items c.push.new.self.items c.in-Ok.text c.loop-word-test.true c.word-item.is),
  one_more IsUtf8 c.args.words.now c.loop-word.word-index c.word-item.result c.loop-word-test.true c.word-item.is (subst IsUtf8 c.bytes.ensures c.in-Ok.ensures.cases.1) c.loop-word.invariant.1,
)

pub returns-clause-valid : goal.returns-clause-valid
returns-clause-valid c =
    subst (λ words. All IsUtf8 words) (take_all c.loop-word.word-index c.args.words.now (omega (arith, c.loop-word-test.false))) c.loop-word.invariant.1
