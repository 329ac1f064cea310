use Rattle.std.proofs.Common.{refl}
use Rattle.pb_fields.specs.Catalogue.{catalogue}
use Rattle.pb_fields.specs.Order.{slots}
use Rattle.pb_changes.specs.Groups.{slots_in}
use Rattle.pb_changes.proofs.laws.groups_have_their_sizes.Goals as goal

pub returns : goal.returns
unfolding slots_in slots catalogue
returns c = refl
