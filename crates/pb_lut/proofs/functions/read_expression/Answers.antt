use Rattle.std.proofs.Common.{arith, sym}
use Rattle.std.proofs.lemmas.Bool.{eqb-false}
use Rattle.pb_lut.proofs.ReadingLemmas.{IfNone-from}
use Rattle.pb_lut.proofs.FunctionLemmas.{no_expression, no_expression_before}
use Rattle.pb_lut.proofs.functions.read_expression.Goals as goal

pub returns-in_err-n-clause-none : goal.returns-in_err-n-clause-none
returns-in_err-n-clause-none c = IfNone-from _ (no_expression c.in_err-n.ensures.none)

pub returns-else-is_empty-clause-none : goal.returns-else-is_empty-clause-none
returns-else-is_empty-clause-none c =
    no_expression_before c.in_ok-n.ensures.found (omega (arith, eqb-false _ _ (sym c.if-is_empty.ensures)))
