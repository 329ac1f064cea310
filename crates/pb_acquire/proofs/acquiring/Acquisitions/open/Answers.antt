use Rattle.std.proofs.Common.{◌≡◌, ap, subst, ◌∙◌, length, true}
use Rattle.std.specs.Prelude.{Some}
use Rattle.pb_acquire.specs.Readers.{reader_from, open_needs}
use Rattle.pb_acquire.specs.Taking.{with_reader}
use Rattle.pb_acquire.specs.Kept.{Agrees}
use Rattle.pb_acquire.proofs.KeptLemmas.{put_agrees}
use Rattle.pb_acquire.proofs.TakingLemmas.{new_needs_none}
use Rattle.pb_acquire.proofs.acquiring.Acquisitions.open.Goals as goal

pub returns-clause-readers : goal.returns-clause-readers
returns-clause-readers c = λ all agrees.
    let e = c.put_reader-2.ensures in
    let made : c.args.self.now.made ≡ length all.completed = agrees.made in
    let same : c.from.result ≡ reader_from c.args.options (length all.completed) = c.from.ensures ∙ ap (reader_from c.args.options) (ap (λ k. k.made) c.put_reader.view_is ∙ made) in
    let left = put_agrees c.args.self.now _ all c.args.id (Some c.from.result) agrees e.running e.captured e.condition e.made e.readers e.held e.places
    (λ place below need. absurd (new_needs_none c.args.options (length all.completed) place below (subst (λ r. open_needs place (Some r) ≡ true) same need))) in
    subst (λ r. Agrees c.put_reader-2.new.self (with_reader c.args.id (Some r) all)) same left
