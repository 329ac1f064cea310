use Rattle.pb_words.proofs.DecimalReadBack.{canonical_read_back}
use Rattle.pb_words.proofs.decimals.canonical_decimals_are_read_back.Goals as goal

pub returns : goal.returns
returns c = canonical_read_back
