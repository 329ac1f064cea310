use Rattle.pb_encode.proofs.NameLemmas.{is_slot}
use Rattle.pb_encode.proofs.naming.own_slot.Goals as goal

pub returns-clause-slot : goal.returns-clause-slot
returns-clause-slot c = is_slot c.args.entry c.requires.from c.requires.to
