use Rattle.std.proofs.Common.{refl}
use Rattle.pb_words.specs.Signed.{int_of}
use Rattle.pb_words.proofs.signed.ints_by_example.Goals as goal

pub returns : goal.returns
unfolding int_of
returns c = record { plus = refl; minus = refl; minus_zero = refl; two_signs = refl; no_digits = refl }
