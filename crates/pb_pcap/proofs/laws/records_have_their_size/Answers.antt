use Rattle.std.proofs.Common.{refl}
use Rattle.pb_pcap.proofs.FieldLemmas.{size_limit}
use Rattle.pb_pcap.proofs.PackingLemmas.{record_length, records_more}
use Rattle.pb_pcap.proofs.laws.records_have_their_size.Goals as goal

pub returns-clause-size : goal.returns-clause-size
returns-clause-size c = record_length

pub returns-clause-limit : goal.returns-clause-limit
returns-clause-limit c = size_limit

pub returns-clause-largest : goal.returns-clause-largest
returns-clause-largest c = refl

pub returns-clause-one_more : goal.returns-clause-one_more
returns-clause-one_more c = records_more
