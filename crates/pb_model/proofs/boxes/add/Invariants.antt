use Rattle.std.proofs.Common.{◌≡◌, ◌++◌, replicate}
use Rattle.pb_model.specs.Tick.{opening_block}
use Rattle.pb_model.proofs.boxes.add.Given as goal

abbrev pub invariant-loop : goal.invariant-loop
invariant-loop l = l.blocks.items ≡ l.fn.blocks.items ++ replicate l.counter (opening_block l.kind)
