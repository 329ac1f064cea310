use Rattle.pb_replies.proofs.NameLemmas.{first_field_slot}
use Rattle.pb_replies.proofs.lines.list_field.Goals as goal

pub field_name-requires : goal.field_name-requires
field_name-requires c = first_field_slot c.args.block c.args.field c.requires.block c.requires.field

pub field_type-requires : goal.field_type-requires
field_type-requires c = first_field_slot c.args.block c.args.field c.requires.block c.requires.field
