use Rattle.pb_lut.proofs.ReadingLemmas.{print-injective}
use Rattle.pb_lut.proofs.laws.one_reading.Goals as goal

pub returns : goal.returns
returns c s t e = print-injective s t e
