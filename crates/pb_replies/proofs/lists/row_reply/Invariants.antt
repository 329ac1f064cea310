use Rattle.std.proofs.Common.{◌≡◌, []}
use Rattle.pb_replies.specs.Lists.{row_lines}
use Rattle.pb_replies.proofs.ListedLemmas.{after}
use Rattle.pb_replies.proofs.lists.row_reply.Given as goal

abbrev pub invariant-loop-field : goal.invariant-loop-field
invariant-loop-field l = l.text ≡ after [] row_lines l.field-index
