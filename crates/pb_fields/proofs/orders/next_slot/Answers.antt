use Rattle.std.proofs.Common.{arith, ◌<◌, ◌+◌}
use Rattle.pb_fields.proofs.RowLemmas.{instances_some, fields_some}
use Rattle.pb_fields.proofs.orders.next_slot.Goals as goal

pub returns-then-slot-lt-BLOCKS-clause-slot : goal.returns-then-slot-lt-BLOCKS-clause-slot
returns-then-slot-lt-BLOCKS-clause-slot c =
    let in_blocks : c.args.slot.block + 1 < 12 = omega arith in
    record {
      in_blocks = in_blocks;
      from_one = omega arith;
      in_count = instances_some _ in_blocks;
      in_fields = fields_some _ in_blocks;
      in_attributes = omega arith;
    }
