use Rattle.std.proofs.Common.{refl}
use Rattle.pb_fields.specs.Catalogue.{catalogue}
use Rattle.pb_fields.proofs.tables.blocks.Goals as goal

pub returns-clause-rows : goal.returns-clause-rows
unfolding catalogue
returns-clause-rows c = refl
