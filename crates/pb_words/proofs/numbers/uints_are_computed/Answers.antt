use Rattle.pb_words.proofs.ComputedLemmas.{uint_decides}
use Rattle.pb_words.proofs.numbers.uints_are_computed.Goals as goal

pub returns : goal.returns
returns c text = let d = uint_decides text in (d.1, d.0)
