use Rattle.std.proofs.Common.{refl}
use Rattle.std.specs.Fmt.{digits}
use Rattle.pb_pcap.specs.Records.{int32, int64}
use Rattle.pb_acquire.proofs.laws.readers_by_example.Goals as goal

pub returns : goal.returns
unfolding digits int32 int64
returns c = record { not_armed = (refl, refl); joined = refl; took_all = refl; end = refl; more_first = refl; done = refl }
