use Rattle.std.proofs.Common.{refl}
use Rattle.pb_fields.specs.Catalogue.{catalogue}
use Rattle.pb_fields.specs.Labels.{bit_names, position_names}
use Rattle.pb_fields.specs.Entries.{bit_entries, pos_entries}
use Rattle.pb_fields.proofs.laws.labels_are_names.Goals as goal

pub returns : goal.returns
unfolding bit_names position_names bit_entries pos_entries catalogue
returns c = record { bits = refl; positions = refl }
