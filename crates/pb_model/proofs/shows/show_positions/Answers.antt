use Rattle.std.proofs.Common.{◌∙◌, arith}
use Rattle.pb_model.specs.Tick.{positions_of}
use Rattle.pb_model.proofs.ShownLemmas.{count_here, length-positions_of, block_positions}
use Rattle.pb_model.proofs.shows.show_positions.Goals as goal

pub show_positions-next-requires : goal.show_positions-next-requires
show_positions-next-requires c =
    omega (
      arith,
      c.loop-block.invariant.next,
      length-positions_of c.block-item.result,
      count_here positions_of c.args.blocks.now c.loop-block.block-index c.block-item.result c.loop-block-test.true c.block-item.is,
    )

pub loop-block-preserved : goal.loop-block-preserved
loop-block-preserved c =
    record {
      shown =
          block_positions c.args.blocks.now c.loop-block.block-index c.block-item.result c.loop-block.next c.show_positions-next.result
          c.args.tick c.loop-block.buses c.show_positions-next.new.buses c.loop-block-test.true c.block-item.is
          c.show_positions-next.ensures.next c.show_positions-next.ensures.shown
          ∙ c.loop-block.invariant.shown;
      next =
          omega (
            arith,
            c.loop-block.invariant.next,
            length-positions_of c.block-item.result,
            c.show_positions-next.ensures.next,
            count_here positions_of c.args.blocks.now c.loop-block.block-index c.block-item.result c.loop-block-test.true c.block-item.is,
          );
    }
