use Rattle.pb_acquire.proofs.FindingLemmas.{took}
use Rattle.pb_acquire.proofs.acquiring.Acquisitions.take.Goals as goal

pub returns-in-Bytes-clause-ok : goal.returns-in-Bytes-clause-ok
returns-in-Bytes-clause-ok c = λ all agrees.
    let e = c.put_reader.ensures in
    let is = c.in-Bytes.is in
    let told = c.in_ok-taken.ensures.ok all agrees in
    took c.args.self.now _ all c.args.id c.in-Bytes.text c.in-Bytes.reader agrees (cc) e.running e.captured e.condition e.made e.readers e.held e.places
