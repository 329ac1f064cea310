use Rattle.pb_words.proofs.ComputedLemmas.{decimal_found, decimal_written}
use Rattle.pb_words.proofs.decimals.decimals_are_computed.Goals as goal

pub returns : goal.returns
returns c text d = (decimal_found text d, decimal_written text d)
