use Rattle.std.proofs.Common.{arith}
use Rattle.pb_tables.proofs.ChunkLemmas.{last_added, bad_last, cut_last}
use Rattle.pb_tables.proofs.drafts.Draft.add_last.Goals as goal

pub returns-then-n-ne0-clause-err : goal.returns-then-n-ne0-clause-err
returns-then-n-ne0-clause-err c body = cut_last c.args.self.now c.args.chunk.now body c.decode.new.out c.in-Some.n (omega arith) c.in-Some.ensures.some c.if-n-ne0.true

pub returns-else-n-ne0-clause-ok : goal.returns-else-n-ne0-clause-ok
returns-else-n-ne0-clause-ok c body =
    last_added c.args.self.now c.add_words.new.self c.args.chunk.now body c.decode.new.out c.in-Some.n (omega arith) c.in-Some.ensures.some c.if-n-ne0.false c.add_words.ensures.held

pub returns-in-None-clause-err : goal.returns-in-None-clause-err
returns-in-None-clause-err c body = bad_last c.args.self.now c.args.chunk.now body c.in-None.ensures.none
