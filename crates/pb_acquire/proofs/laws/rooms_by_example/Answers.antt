use Rattle.std.proofs.Common.{refl}
use Rattle.pb_acquire.proofs.laws.rooms_by_example.Goals as goal

pub returns : goal.returns
returns c = (refl, refl, refl)
