use Rattle.pb_lut.proofs.FunctionLemmas.{WritesFunction-unique}
use Rattle.pb_lut.proofs.laws.one_number.Goals as goal

pub returns : goal.returns
returns c text m n a b = WritesFunction-unique text m n a b
