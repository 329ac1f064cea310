use Rattle.pb_grammar.proofs.StreamLemmas.{one_list}
use Rattle.pb_grammar.proofs.laws.streams_have_one_list.Goals as goal

pub returns-clause-list : goal.returns-clause-list
returns-clause-list c stream xs ys r s h k = (one_list stream xs ys r s h k).list

pub returns-clause-rest : goal.returns-clause-rest
returns-clause-rest c stream xs ys r s h k = (one_list stream xs ys r s h k).rest
