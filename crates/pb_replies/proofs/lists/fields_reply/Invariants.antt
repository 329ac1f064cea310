use Rattle.std.proofs.Common.{◌≡◌, []}
use Rattle.pb_replies.specs.Lists.{field_lines}
use Rattle.pb_replies.proofs.ListedLemmas.{after}
use Rattle.pb_replies.proofs.lists.fields_reply.Given as goal

abbrev pub invariant-loop-field : goal.invariant-loop-field
invariant-loop-field l = l.text ≡ after [] (field_lines l.block) l.field
