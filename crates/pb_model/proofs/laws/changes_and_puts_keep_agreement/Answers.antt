use Rattle.pb_model.proofs.AgreeLemmas.{change_agrees, table_agrees, bit_put_agrees, position_put_agrees}
use Rattle.pb_model.proofs.laws.changes_and_puts_keep_agreement.Goals as goal

pub returns : goal.returns
returns c = record { change = change_agrees; table = table_agrees; bit = bit_put_agrees; position = position_put_agrees }
