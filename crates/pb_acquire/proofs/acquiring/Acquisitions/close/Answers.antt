use Rattle.std.proofs.Common.{refl}
use Rattle.std.proofs.lemmas.Bool.{both_ways}
use Rattle.std.specs.Prelude.{false, None}
use Rattle.pb_acquire.proofs.KeptLemmas.{put_agrees}
use Rattle.pb_acquire.proofs.acquiring.Acquisitions.close.Goals as goal

pub returns-clause-readers : goal.returns-clause-readers
returns-clause-readers c = λ all agrees.
    let e = c.put_reader.ensures in
    put_agrees c.args.self.now _ all c.args.id None agrees e.running e.captured e.condition e.made e.readers e.held e.places
    (λ place below need. absurd (both_ways false refl need))
