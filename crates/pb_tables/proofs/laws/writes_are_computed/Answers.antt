use Rattle.pb_tables.proofs.ComputedLemmas.{table_computed, refusal_computed}
use Rattle.pb_tables.proofs.laws.writes_are_computed.Goals as goal

pub returns : goal.returns
returns c = record { table = table_computed; reason = refusal_computed }
