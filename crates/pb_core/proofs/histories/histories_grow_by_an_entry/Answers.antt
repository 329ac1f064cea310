use Rattle.pb_core.proofs.HistoryLemmas.{legal_more, legal_before, last_is_next}
use Rattle.pb_core.proofs.histories.histories_grow_by_an_entry.Goals as goal

pub returns-clause-grows : goal.returns-clause-grows
returns-clause-grows c core history entry legal next = legal_more core history entry legal next

pub returns-clause-was : goal.returns-clause-was
returns-clause-was c core history entry legal = legal_before core history entry legal

pub returns-clause-last : goal.returns-clause-last
returns-clause-last c core history entry legal = last_is_next core history entry legal
