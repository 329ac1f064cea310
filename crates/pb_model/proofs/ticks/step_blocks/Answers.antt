use Rattle.std.proofs.Common.{◌<◌, length, refl, sym, ap, subst, ◌∙◌, rules, arith}
use Rattle.pb_buses.specs.declared.Emit.TheVariants as emits
use Rattle.pb_model.specs.Tick.{block_after, emitted_by}
use Rattle.pb_model.proofs.TickLemmas.{one_emits, item_is, item_stepped}
use Rattle.pb_model.proofs.ArmLemmas.{none_emitted}
use Rattle.pb_model.proofs.ticks.step_blocks.Goals as goal

pub loop-block-preserved : goal.loop-block-preserved
loop-block-preserved g c =
    let more : c.loop-block.block-index < length c.args.blocks.now.items =
    subst (λ l. c.loop-block.block-index < length l) c.deref_mut-block-items.ensures.value c.loop-block-test.true in
    record {
      stepped =
          item_stepped (block_after c.args.buses.now.bus c.args.tick) c.args.blocks.now.items c.loop-block.block-items
          c.loop-block.block-index c.step_capture.new.self _ more c.loop-block.invariant.stepped c.step_capture.ensures.next;
      emitted =
          one_emits c.args.buses.now.bus c.args.tick c.loop-block.block-index c.args.blocks.now.items _
          c.loop-block.emit _ c.step_capture.new.emit more
          (ap (emitted_by c.args.buses.now.bus c.args.tick)
          (item_is (block_after c.args.buses.now.bus c.args.tick) c.args.blocks.now.items c.loop-block.block-items
          c.loop-block.block-index _ more c.loop-block.invariant.stepped))
          c.step_capture.ensures.emits
          ∙ c.loop-block.invariant.emitted;
      counted = omega (arith, c.step_capture.ensures.counts, c.loop-block.invariant.counted);
      narrow = c.loop-block.invariant.narrow;
    }

pub loop-block-preserved-then-not-sees_all : goal.loop-block-preserved-then-not-sees_all
loop-block-preserved-then-not-sees_all g c =
    let more : c.loop-block.block-index < length c.args.blocks.now.items =
    subst (λ l. c.loop-block.block-index < length l) c.deref_mut-block-items.ensures.value c.loop-block-test.true in
    record {
      stepped =
          item_stepped (block_after c.args.buses.now.bus c.args.tick) c.args.blocks.now.items c.loop-block.block-items
          c.loop-block.block-index c.advance.new.self _ more c.loop-block.invariant.stepped c.advance.ensures.next;
      emitted =
          one_emits c.args.buses.now.bus c.args.tick c.loop-block.block-index c.args.blocks.now.items _
          c.loop-block.emit emits.Nothing c.loop-block.emit more
          (sym (none_emitted c.args.buses.now.bus c.args.tick c.block-item.result (search rules))
          ∙ ap (emitted_by c.args.buses.now.bus c.args.tick)
          (c.block-item.is ∙ item_is (block_after c.args.buses.now.bus c.args.tick) c.args.blocks.now.items c.loop-block.block-items
          c.loop-block.block-index _ more c.loop-block.invariant.stepped))
          refl
          ∙ c.loop-block.invariant.emitted;
      counted = omega (arith, c.advance.ensures.counts, c.loop-block.invariant.counted);
      narrow = c.advance.ensures.narrow;
    }
