use Rattle.std.proofs.Common.{All, subst}
use Rattle.std.proofs.lemmas.List.{take_all}
use Rattle.std.proofs.lemmas.List.Elements.{All-more}
use Rattle.pb_words.specs.Numbers.{IsDigit}
use Rattle.pb_words.proofs.cuts.cut_digits.Goals as goal

pub loop-i-preserved : goal.loop-i-preserved
loop-i-preserved c =
    All-more IsDigit c.args.text.now c.loop-i.i 0 c.loop-i-test.true c.loop-i.invariant (c.if-b-lt48.false, c.if-b-gt57.false)

pub returns-clause-digits : goal.returns-clause-digits
returns-clause-digits c =
    subst (All IsDigit) (take_all c.loop-i.i c.args.text.now c.loop-i-test.false) c.loop-i.invariant
