use Rattle.pb_acquire.proofs.taking.taken_of.Goals as goal

pub returns-then-reader-clause-ok : goal.returns-then-reader-clause-ok
returns-then-reader-clause-ok c = λ own is. rw c.if-reader.true (c.header_taken.ensures own is.by_layout)
