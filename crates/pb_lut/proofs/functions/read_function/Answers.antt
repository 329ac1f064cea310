use Rattle.pb_lut.proofs.ReadingLemmas.{IfNone-by}
use Rattle.pb_lut.proofs.FunctionLemmas.{no_function, no_function_hex}
use Rattle.pb_lut.proofs.functions.read_function.Goals as goal

pub returns-in-Some-clause-none : goal.returns-in-Some-clause-none
returns-in-Some-clause-none c =
    IfNone-by c.read_hex.result (no_function_hex c.in-Some.ensures.found) c.read_hex.ensures.none

pub returns-in-None-clause-none : goal.returns-in-None-clause-none
returns-in-None-clause-none c =
    IfNone-by c.read_expression.result (no_function c.in-None.ensures.none) c.read_expression.ensures.none
