use Rattle.std.proofs.Common.{[], ap, ◌++◌, codes, ◌∙◌, arith}
use Rattle.pb_fields.specs.Places.{block_of}
use Rattle.pb_replies.specs.Lists.{block_lines, block_line}
use Rattle.pb_replies.proofs.NameLemmas.{length-block_lines, block_line_at}
use Rattle.pb_replies.proofs.ListedLemmas.{one_more, all_lines}
use Rattle.pb_replies.proofs.lists.blocks_reply.Goals as goal

pub loop-block-preserved : goal.loop-block-preserved
loop-block-preserved c =
    c.in_ok-list_block.ensures
    ∙ one_more [] block_lines c.loop-block.block c.loop-block.text (block_line (block_of c.loop-block.block)) (omega (arith, length-block_lines)) (block_line_at _ (omega arith)) c.loop-block.invariant

pub returns : goal.returns
returns c =
    c.in_ok-end_list.ensures
    ∙ ap (λ t. t ++ codes ".\n") (c.loop-block.invariant ∙ all_lines [] block_lines c.loop-block.block (omega (arith, length-block_lines)))
