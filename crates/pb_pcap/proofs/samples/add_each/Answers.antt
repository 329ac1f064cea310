use Rattle.std.proofs.Common.{◌∙◌, sym, arith, rules}
use Rattle.std.proofs.lemmas.Int.{wraps}
use Rattle.pb_pcap.specs.Each.{added}
use Rattle.pb_pcap.proofs.EachLemmas.{joined_none, joined_more, joined_all}
use Rattle.pb_pcap.proofs.samples.add_each.Goals as goal

pub loop-i-init : goal.loop-i-init
loop-i-init c = record { long = c.told-sums; joined = joined_none added _ _ }

pub loop-i-preserved : goal.loop-i-preserved
loop-i-preserved c =
    record {
      long = search rules;
      joined =
          joined_more added c.loop-i.i c.loop-i.sums c.args.bus.now _ (omega arith) (omega arith) (search (rules, wraps))
          ∙ c.loop-i.invariant.joined;
    }

pub returns : goal.returns
returns c =
    sym (joined_all added c.loop-i.i c.loop-i.sums c.args.bus.now (omega arith) (omega arith)) ∙ c.loop-i.invariant.joined
