use Rattle.pb_words.proofs.ComputedLemmas.{int_found, int_written}
use Rattle.pb_words.proofs.signed.ints_are_computed.Goals as goal

pub returns : goal.returns
returns c text i = (int_found text i, int_written text i)
