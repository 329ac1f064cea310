use Rattle.pb_fields.proofs.ValueLaws.{printed_is_spelled}
use Rattle.pb_fields.proofs.values.printed_values_are_spelled.Goals as goal

pub returns : goal.returns
returns c = printed_is_spelled
