use Rattle.pb_lut.proofs.ComputedLemmas.{function_found, function_written}
use Rattle.pb_lut.proofs.laws.functions_are_computed.Goals as goal

pub returns : goal.returns
returns c text n = (function_found text n, function_written text n)
