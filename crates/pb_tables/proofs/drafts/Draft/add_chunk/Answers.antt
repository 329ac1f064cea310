use Rattle.std.proofs.Common.{arith}
use Rattle.pb_tables.proofs.ChunkLemmas.{chunk_added, bad_chunk}
use Rattle.pb_tables.proofs.drafts.Draft.add_chunk.Goals as goal

pub returns-then-not-decode_whole-clause-added : goal.returns-then-not-decode_whole-clause-added
returns-then-not-decode_whole-clause-added c seen rest body = bad_chunk c.args.self.now c.args.chunk.now seen rest body c.requires.full c.if-not-decode_whole.ensures

pub returns-clause-added : goal.returns-clause-added
returns-clause-added c seen =
    chunk_added c.args.self.now c.add_words.new.self seen c.args.chunk.now c.decode_whole.new.out (omega arith) c.if-not-decode_whole.ensures c.add_words.ensures.held
