use Rattle.std.proofs.Common.{refl}
use Rattle.pb_fields.specs.Catalogue.{catalogue}
use Rattle.pb_fields.specs.Entries.{bit_entries, pos_entries}
use Rattle.pb_fields.specs.Order.{slots}
use Rattle.pb_buses.specs.Buses.{value}
use Rattle.pb_changes.proofs.laws.reports_by_example.Goals as goal

pub returns-clause-changes : goal.returns-clause-changes
unfolding slots catalogue bit_entries pos_entries value
returns-clause-changes c = refl

pub returns-clause-tables : goal.returns-clause-tables
unfolding slots catalogue bit_entries pos_entries value
returns-clause-tables c = refl

pub returns-clause-order : goal.returns-clause-order
unfolding slots catalogue bit_entries pos_entries value
returns-clause-order c = refl
