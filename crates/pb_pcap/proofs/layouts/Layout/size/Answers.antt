use Rattle.std.proofs.Common.{arith}
use Rattle.pb_pcap.proofs.FieldLemmas.{size_limit}
use Rattle.pb_pcap.proofs.layouts.Layout.size.Goals as goal

pub returns-clause-limit : goal.returns-clause-limit
returns-clause-limit c =
    let limit = size_limit _ c.self.invariant.3 in
    omega (arith, limit, c.self.invariant.2)
