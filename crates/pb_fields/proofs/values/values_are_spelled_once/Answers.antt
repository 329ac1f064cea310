use Rattle.pb_fields.proofs.ValueLaws.{spelled_once}
use Rattle.pb_fields.proofs.values.values_are_spelled_once.Goals as goal

pub returns : goal.returns
returns c = spelled_once
