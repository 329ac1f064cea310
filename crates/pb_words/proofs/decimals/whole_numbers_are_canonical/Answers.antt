use Rattle.pb_words.proofs.CanonicalLemmas.{canonical_whole}
use Rattle.pb_words.proofs.decimals.whole_numbers_are_canonical.Goals as goal

pub returns : goal.returns
returns c = canonical_whole
