use Rattle.std.proofs.Common.{rules}
use Rattle.std.proofs.lemmas.Int.{wraps}
use Rattle.pb_pcap.proofs.deadlines.added.Goals as goal

pub returns : goal.returns
returns c = search (rules, wraps)
