use Rattle.pb_words.proofs.SignedReadBack.{signed_read_back}
use Rattle.pb_words.proofs.signed.signed_decimals_are_read_back.Goals as goal

pub returns : goal.returns
returns c = signed_read_back
