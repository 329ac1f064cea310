use Rattle.std.proofs.Common.{map, ap, ◌∙◌, arith}
use Rattle.pb_fields.specs.BlockNames.{place_named}
use Rattle.pb_fields.proofs.BlockNameLemmas.{next_block_placed, all_blocks_placed}
use Rattle.pb_fields.proofs.finding.named_blocks.Goals as goal

pub loop-block-preserved : goal.loop-block-preserved
loop-block-preserved c =
    ap (map place_named) c.in_ok-insert.ensures.entries
    ∙ next_block_placed c.loop-block.names c.block_at.result.0 c.loop-block.block c.loop-block-test.true c.loop-block.invariant c.block_at.ensures.name

pub returns : goal.returns
returns c = c.loop-block.invariant ∙ all_blocks_placed c.loop-block.block (omega arith)
