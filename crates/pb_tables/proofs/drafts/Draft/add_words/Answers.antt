use Rattle.std.proofs.Common.{◌++◌, subst, arith}
use Rattle.pb_tables.specs.Computed.{words_in}
use Rattle.pb_tables.specs.Held.{Holds}
use Rattle.pb_tables.proofs.ChunkLemmas.{words_more}
use Rattle.pb_tables.proofs.drafts.Draft.add_words.Goals as goal

pub loop-i-preserved : goal.loop-i-preserved
loop-i-preserved c = (
  omega arith,
  λ words h.
      let one = c.push.ensures.held (words ++ words_in c.loop-i.i c.args.bytes.now) (c.loop-i.invariant.1 words h) in
      subst (Holds c.push.new.self) (words_more c.loop-i.i c.read_u32.result c.args.bytes.now c.split_at.result.1.now words c.split_at.ensures.back c.read_u32.ensures) one,
)
