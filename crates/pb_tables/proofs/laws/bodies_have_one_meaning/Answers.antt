use Rattle.pb_tables.proofs.OneReading.{one_saying, one_reason, not_both}
use Rattle.pb_tables.proofs.laws.bodies_have_one_meaning.Goals as goal

pub returns : goal.returns
returns c = record { words = one_saying; reason = one_reason; apart = not_both }
