use Rattle.pb_changes.proofs.ReadLemmas.{row_is, row_in, row_read, row_shown}
use Rattle.pb_changes.proofs.reads.read_slot.Goals as goal

pub returns-clause-field : goal.returns-clause-field
returns-clause-field c = row_is c.args.place c.requires

pub returns-clause-slot : goal.returns-clause-slot
returns-clause-slot c = row_in c.args.place c.requires

pub returns-clause-read : goal.returns-clause-read
returns-clause-read c = row_read c.args.place c.requires

pub returns-clause-shown : goal.returns-clause-shown
returns-clause-shown c = row_shown c.args.place c.requires
