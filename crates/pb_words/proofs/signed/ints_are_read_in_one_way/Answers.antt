use Rattle.pb_words.proofs.SignedReadBack.{int_once}
use Rattle.pb_words.proofs.signed.ints_are_read_in_one_way.Goals as goal

pub returns : goal.returns
returns c = int_once
