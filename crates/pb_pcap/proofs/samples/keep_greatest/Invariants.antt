use Rattle.std.proofs.Common.{◌≡◌, length}
use Rattle.std.specs.Int.{int_max}
use Rattle.pb_pcap.specs.Each.{each}
use Rattle.pb_pcap.proofs.EachLemmas.{joined_from}
use Rattle.pb_pcap.proofs.samples.keep_greatest.Given as goal

abbrev pub invariant-loop-i : goal.invariant-loop-i
invariant-loop-i l =
    record {
      long : length l.greatest ≡ 32;
      joined : joined_from int_max l.i l.greatest l.bus ≡ each int_max l.initial.greatest l.bus;
    }
