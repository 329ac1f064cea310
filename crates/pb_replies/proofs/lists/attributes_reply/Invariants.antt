use Rattle.std.proofs.Common.{◌≡◌, []}
use Rattle.pb_replies.specs.Lists.{attribute_lines}
use Rattle.pb_replies.proofs.ListedLemmas.{after}
use Rattle.pb_replies.proofs.lists.attributes_reply.Given as goal

abbrev pub invariant-loop-attribute : goal.invariant-loop-attribute
invariant-loop-attribute l = l.text ≡ after [] (attribute_lines l.fn.slot) l.attribute-index
