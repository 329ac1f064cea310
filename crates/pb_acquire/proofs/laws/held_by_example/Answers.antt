use Rattle.std.proofs.Common.{refl}
use Rattle.std.specs.Fmt.{digits}
use Rattle.pb_acquire.proofs.laws.held_by_example.Goals as goal

pub returns : goal.returns
unfolding digits
returns c = record { refused = (refl, refl); closed = refl; alone = (refl, refl); took = refl; end = refl }
