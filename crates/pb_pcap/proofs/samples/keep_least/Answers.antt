use Rattle.std.proofs.Common.{◌∙◌, sym, arith, rules}
use Rattle.std.specs.Int.{int_min}
use Rattle.pb_pcap.proofs.EachLemmas.{joined_none, joined_more, joined_all}
use Rattle.pb_pcap.proofs.samples.keep_least.Goals as goal

pub loop-i-init : goal.loop-i-init
loop-i-init c = record { long = c.told-least; joined = joined_none int_min _ _ }

pub loop-i-preserved : goal.loop-i-preserved
loop-i-preserved c =
    record {
      long = search rules;
      joined =
          joined_more int_min c.loop-i.i c.loop-i.least c.args.bus.now _ (omega arith) (omega arith) (search rules)
          ∙ c.loop-i.invariant.joined;
    }

pub returns : goal.returns
returns c =
    sym (joined_all int_min c.loop-i.i c.loop-i.least c.args.bus.now (omega arith) (omega arith)) ∙ c.loop-i.invariant.joined
