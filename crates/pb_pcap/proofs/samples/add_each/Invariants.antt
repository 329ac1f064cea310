use Rattle.std.proofs.Common.{◌≡◌, length}
use Rattle.pb_pcap.specs.Each.{each, added}
use Rattle.pb_pcap.proofs.EachLemmas.{joined_from}
use Rattle.pb_pcap.proofs.samples.add_each.Given as goal

abbrev pub invariant-loop-i : goal.invariant-loop-i
invariant-loop-i l =
    record {
      long : length l.sums ≡ 32;
      joined : joined_from added l.i l.sums l.bus ≡ each added l.initial.sums l.bus;
    }
