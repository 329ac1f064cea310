use Rattle.std.proofs.Common.{◌≡◌, []}
use Rattle.pb_replies.specs.Lists.{block_lines}
use Rattle.pb_replies.proofs.ListedLemmas.{after}
use Rattle.pb_replies.proofs.lists.blocks_reply.Given as goal

abbrev pub invariant-loop-block : goal.invariant-loop-block
invariant-loop-block l = l.text ≡ after [] block_lines l.block
