use Rattle.std.proofs.Common.{◌≡◌, length, pos}
use Rattle.pb_pcap.specs.Each.{each}
use Rattle.pb_pcap.specs.Resting.{added_times}
use Rattle.pb_pcap.proofs.EachLemmas.{joined_from}
use Rattle.pb_pcap.proofs.deadlines.add_times.Given as goal

abbrev pub invariant-loop-i : goal.invariant-loop-i
invariant-loop-i l =
    record {
      long : length l.sums ≡ 32;
      joined : joined_from (added_times (pos l.ticks)) l.i l.sums l.bus ≡ each (added_times (pos l.ticks)) l.initial.sums l.bus;
    }
