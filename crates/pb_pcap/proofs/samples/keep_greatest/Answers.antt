use Rattle.std.proofs.Common.{◌∙◌, sym, arith, rules}
use Rattle.std.specs.Int.{int_max}
use Rattle.pb_pcap.proofs.EachLemmas.{joined_none, joined_more, joined_all}
use Rattle.pb_pcap.proofs.samples.keep_greatest.Goals as goal

pub loop-i-init : goal.loop-i-init
loop-i-init c = record { long = c.told-greatest; joined = joined_none int_max _ _ }

pub loop-i-preserved : goal.loop-i-preserved
loop-i-preserved c =
    record {
      long = search rules;
      joined =
          joined_more int_max c.loop-i.i c.loop-i.greatest c.args.bus.now _ (omega arith) (omega arith) (search rules)
          ∙ c.loop-i.invariant.joined;
    }

pub returns : goal.returns
returns c =
    sym (joined_all int_max c.loop-i.i c.loop-i.greatest c.args.bus.now (omega arith) (omega arith)) ∙ c.loop-i.invariant.joined
