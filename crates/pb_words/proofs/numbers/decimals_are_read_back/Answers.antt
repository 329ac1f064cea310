use Rattle.pb_words.proofs.NumberLemmas.{decimal_writes}
use Rattle.pb_words.proofs.numbers.decimals_are_read_back.Goals as goal

pub returns : goal.returns
returns c n h = decimal_writes n h
