use Rattle.std.proofs.Common.{◌≡◌, ◌<◌, length, map, get_or, ◌∙◌, arith}
use Rattle.pb_model.specs.declared.Block.{Block}
use Rattle.pb_model.specs.Tick.{positions_of}
use Rattle.pb_model.proofs.ShownLemmas.{count_here, length-positions_of, block_positions}
use Rattle.pb_going.specs.Sims.{block_in}
use Rattle.pb_jump.proofs.ShowLemmas.{inside_map, is_in_map}
use Rattle.pb_jump.proofs.showing.show_positions.Goals as goal

pub show_positions-next-requires : goal.show_positions-next-requires
show_positions-next-requires c =
    let lazies = c.args.lazies.now in
    let i = c.loop-lazy.lazy-index in
    let block : Block = c.lazy-item.result.block in
    let below : i < length (map block_in lazies) = inside_map lazies i c.loop-lazy-test.true in
    let is : block ≡ get_or (map block_in lazies) i block = is_in_map lazies i c.lazy-item.result c.loop-lazy-test.true c.lazy-item.is in
    omega (arith, c.loop-lazy.invariant.next, length-positions_of block, count_here positions_of (map block_in lazies) i block below is)

pub loop-lazy-preserved : goal.loop-lazy-preserved
loop-lazy-preserved c =
    let lazies = c.args.lazies.now in
    let i = c.loop-lazy.lazy-index in
    let block : Block = c.lazy-item.result.block in
    let below : i < length (map block_in lazies) = inside_map lazies i c.loop-lazy-test.true in
    let is : block ≡ get_or (map block_in lazies) i block = is_in_map lazies i c.lazy-item.result c.loop-lazy-test.true c.lazy-item.is in
    record {
      shown =
          block_positions (map block_in lazies) i block c.loop-lazy.next c.show_positions-next.result c.args.tick c.loop-lazy.buses c.show_positions-next.new.buses
          below is c.show_positions-next.ensures.next c.show_positions-next.ensures.shown
          ∙ c.loop-lazy.invariant.shown;
      next =
          omega (
            arith,
            c.loop-lazy.invariant.next,
            length-positions_of block,
            c.show_positions-next.ensures.next,
            count_here positions_of (map block_in lazies) i block below is,
          );
    }
