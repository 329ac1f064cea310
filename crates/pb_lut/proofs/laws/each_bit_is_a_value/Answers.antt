use Rattle.pb_lut.proofs.ExpressionLemmas.{number-lt, bit_at-number}
use Rattle.pb_lut.proofs.laws.each_bit_is_a_value.Goals as goal

pub returns-clause-fits : goal.returns-clause-fits
returns-clause-fits c t = number-lt t

pub returns-clause-each : goal.returns-clause-each
returns-clause-each c t x = bit_at-number x t
