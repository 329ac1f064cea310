use Rattle.panda_sim.proofs.OneWord.{one_word}
use Rattle.panda_sim.proofs.running.is_replay.Goals as goal

pub returns-in-len1 : goal.returns-in-len1
returns-in-len1 c =
    one_word c.args.words.now c.word-item.result c.bytes.result.now c.as_slice.result.now c.eq.result c.in-len1.len_at_least c.in-len1.len_below c.word-item.is c.bytes.ensures c.as_slice.ensures c.eq.ensures
