use Rattle.std.proofs.Common.{◌≡◌, length}
use Rattle.std.specs.Int.{int_min}
use Rattle.pb_pcap.specs.Each.{each}
use Rattle.pb_pcap.proofs.EachLemmas.{joined_from}
use Rattle.pb_pcap.proofs.samples.keep_least.Given as goal

abbrev pub invariant-loop-i : goal.invariant-loop-i
invariant-loop-i l =
    record {
      long : length l.least ≡ 32;
      joined : joined_from int_min l.i l.least l.bus ≡ each int_min l.initial.least l.bus;
    }
