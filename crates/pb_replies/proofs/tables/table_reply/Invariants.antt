use Rattle.std.proofs.Common.{◌≡◌, []}
use Rattle.pb_replies.specs.Tables.{table_lines}
use Rattle.pb_replies.proofs.ListedLemmas.{after}
use Rattle.pb_replies.proofs.tables.table_reply.Given as goal

abbrev pub invariant-loop-i : goal.invariant-loop-i
invariant-loop-i l = l.text ≡ after [] (table_lines l.rows) l.i
