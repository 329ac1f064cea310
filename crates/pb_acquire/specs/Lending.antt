-- The records of the acquisition that is armed or running are lent.
use Rattle.std.specs.Prelude.{Option}
use Rattle.std.specs.Borrow.{LendsIf, MutBor, Fml}
use Rattle.pb_pcap.specs.Records.{Held}
use Rattle.pb_pcap.specs.contracts.Records as records
use Rattle.pb_acquire.specs.contracts.acquiring.Acquisitions as acquisitions
use Rattle.pb_acquire.specs.Kept.{Kept, with_records}

-- they end as what is left behind the reference
abbrev pub LendsRecords : MutBor Kept → Option (MutBor Held) → Fml
LendsRecords kept lent = LendsIf acquisitions.the_row records.the_row kept lent (with_records kept.now) kept.now
