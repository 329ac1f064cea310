use Rattle.std.proofs.Common.{refl}
use Rattle.std.specs.Fmt.{digits}
use Rattle.pb_stim.specs.Making.{settings}
use Rattle.pb_stim.proofs.laws.scripts_are_made_by_example.Goals as goal

pub returns : goal.returns
unfolding digits settings
returns c = refl
