use Rattle.std.proofs.Common.{◌∙◌, sym, arith, rules, pos}
use Rattle.pb_pcap.specs.Resting.{added_times}
use Rattle.pb_pcap.proofs.EachLemmas.{joined_none, joined_more, joined_all}
use Rattle.pb_pcap.proofs.deadlines.add_times.Goals as goal

pub loop-i-init : goal.loop-i-init
loop-i-init c = record { long = c.told-sums; joined = joined_none (added_times (pos c.args.ticks)) _ _ }

pub loop-i-preserved : goal.loop-i-preserved
loop-i-preserved c =
    record {
      long = search rules;
      joined =
          joined_more (added_times (pos c.args.ticks)) c.loop-i.i c.loop-i.sums c.args.bus.now _ (omega arith) (omega arith) (search rules)
          ∙ c.loop-i.invariant.joined;
    }

pub returns : goal.returns
returns c =
    sym (joined_all (added_times (pos c.args.ticks)) c.loop-i.i c.loop-i.sums c.args.bus.now (omega arith) (omega arith)) ∙ c.loop-i.invariant.joined
