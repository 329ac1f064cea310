use Rattle.std.proofs.Common.{refl}
use Rattle.pb_grammar.proofs.StreamLemmas.{begun_none, none_more, one_more}
use Rattle.pb_grammar.proofs.laws.streams_grow_by_a_byte.Goals as goal

pub returns-clause-empty : goal.returns-clause-empty
returns-clause-empty c = (refl, begun_none)

pub returns-clause-whole : goal.returns-clause-whole
returns-clause-whole c stream list rest byte h whole = one_more stream list rest byte h whole

pub returns-clause-begun : goal.returns-clause-begun
returns-clause-begun c stream list rest byte h none = none_more stream list rest byte h none
