use Rattle.pb_tables.proofs.OneWrite.{one_table, one_refusal, written_or_refused}
use Rattle.pb_tables.proofs.laws.writes_have_one_meaning.Goals as goal

pub returns : goal.returns
returns c = record { table = one_table; reason = one_refusal; apart = written_or_refused }
