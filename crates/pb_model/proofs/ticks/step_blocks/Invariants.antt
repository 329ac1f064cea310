use Rattle.std.proofs.Common.{◌≡◌, ◌+◌, ◌++◌, map, take, drop}
use Rattle.pb_buses.specs.declared.Emit.TheVariants as emits
use Rattle.pb_model.specs.Tick.{block_after, emitted_by, handed_on}
use Rattle.pb_model.specs.Parts.{IsNarrow}
use Rattle.pb_model.proofs.ticks.step_blocks.Given as goal

abbrev pub invariant-loop-block : goal.invariant-loop-block
invariant-loop-block g l =
    record {
      stepped : l.block-items
          ≡ map (block_after l.buses.bus l.tick) (take l.block-index l.fn.blocks.items) ++ drop l.block-index l.fn.blocks.items;
      emitted : handed_on l.emit (map (emitted_by l.buses.bus l.tick) (drop l.block-index l.fn.blocks.items))
          ≡ handed_on emits.Nothing (map (emitted_by l.buses.bus l.tick) l.fn.blocks.items);
      counted : l.steps ≡ l.fn.steps + l.block-index;
      narrow : IsNarrow l.inputs;
    }
