use Rattle.std.proofs.Common.{◌∙◌, arith}
use Rattle.pb_model.specs.Tick.{bits_of}
use Rattle.pb_model.proofs.ShownLemmas.{count_here, length-bits_of, block_bits}
use Rattle.pb_model.proofs.shows.show_bits.Goals as goal

pub show_bits-next-requires : goal.show_bits-next-requires
show_bits-next-requires c =
    omega (
      arith,
      c.loop-block.invariant.next,
      length-bits_of c.block-item.result,
      count_here bits_of c.args.blocks.now c.loop-block.block-index c.block-item.result c.loop-block-test.true c.block-item.is,
    )

pub loop-block-preserved : goal.loop-block-preserved
loop-block-preserved c =
    record {
      shown =
          block_bits c.args.blocks.now c.loop-block.block-index c.block-item.result c.loop-block.next c.show_bits-next.result
          c.args.tick c.loop-block.buses c.show_bits-next.new.buses c.loop-block-test.true c.block-item.is
          c.show_bits-next.ensures.next c.show_bits-next.ensures.shown
          ∙ c.loop-block.invariant.shown;
      next =
          omega (
            arith,
            c.loop-block.invariant.next,
            length-bits_of c.block-item.result,
            c.show_bits-next.ensures.next,
            count_here bits_of c.args.blocks.now c.loop-block.block-index c.block-item.result c.loop-block-test.true c.block-item.is,
          );
    }
