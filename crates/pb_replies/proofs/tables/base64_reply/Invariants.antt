use Rattle.std.proofs.Common.{◌≡◌, []}
use Rattle.pb_replies.specs.Tables.{base64_lines}
use Rattle.pb_replies.proofs.ListedLemmas.{after}
use Rattle.pb_replies.proofs.tables.base64_reply.Given as goal

abbrev pub invariant-loop-i : goal.invariant-loop-i
invariant-loop-i l = l.text ≡ after [] (base64_lines l.rows) l.i
