use Rattle.std.proofs.Common.{refl}
use Rattle.pb_buses.specs.Buses.{number}
use Rattle.pb_buses.proofs.WordLemmas.{word-more, word-fits}
use Rattle.pb_buses.proofs.entries.word.Goals as goal

pub loop-i-init : goal.loop-i-init
unfolding number
loop-i-init c = refl

pub overflow_add-word : goal.overflow_add-word
overflow_add-word c =
    word-fits c.args.bits.now c.loop-i.i c.loop-i.word c.from.result c.requires c.loop-i-test.true c.loop-i.invariant c.from.ensures

pub loop-i-preserved : goal.loop-i-preserved
loop-i-preserved c =
    word-more c.args.bits.now c.loop-i.i c.loop-i.word c.from.result c.requires c.loop-i-test.true c.loop-i.invariant c.from.ensures
