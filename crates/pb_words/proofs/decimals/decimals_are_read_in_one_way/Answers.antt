use Rattle.pb_words.proofs.DecimalReadBack.{decimal_once}
use Rattle.pb_words.proofs.decimals.decimals_are_read_in_one_way.Goals as goal

pub returns : goal.returns
returns c = decimal_once
