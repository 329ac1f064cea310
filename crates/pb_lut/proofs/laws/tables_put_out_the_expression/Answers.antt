use Rattle.pb_lut.proofs.FunctionLemmas.{WritesFunction-expression, table_output-expression}
use Rattle.pb_lut.proofs.laws.tables_put_out_the_expression.Goals as goal

pub returns-clause-number : goal.returns-clause-number
returns-clause-number c text t w = WritesFunction-expression text t w

pub returns-clause-output : goal.returns-clause-output
returns-clause-output c text n t x f w = table_output-expression text n t x f w
