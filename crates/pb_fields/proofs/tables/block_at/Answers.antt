use Rattle.std.proofs.Common.{length, [], get_or, ap, arith}
use Rattle.std.proofs.lemmas.List.{length-map}
use Rattle.pb_fields.specs.Catalogue.{BlockRow, block, catalogue}
use Rattle.pb_fields.specs.Rows.{block_row, field_row}
use Rattle.pb_fields.proofs.RowLemmas.{row_at, no_block, block_short, count_few, fields_few}
use Rattle.pb_fields.proofs.tables.block_at.Goals as goal

pub returns-clause-short : goal.returns-clause-short
returns-clause-short c = omega (arith, block_short c.args.block, ap (λ (r : BlockRow). length r.name) (row_at block_row _ catalogue c.args.block no_block (block [] 0 []) c.blocks-2.ensures.rows (omega arith)))

pub returns-clause-few : goal.returns-clause-few
returns-clause-few c = omega (arith, count_few c.args.block, ap (λ (r : BlockRow). r.count) (row_at block_row _ catalogue c.args.block no_block (block [] 0 []) c.blocks-2.ensures.rows (omega arith)))

pub returns-clause-some : goal.returns-clause-some
returns-clause-some c = omega (arith, fields_few c.args.block, ap (λ (r : BlockRow). length r.fields) (row_at block_row _ catalogue c.args.block no_block (block [] 0 []) c.blocks-2.ensures.rows (omega arith)), length-map (get_or c.blocks-2.result.now c.args.block no_block).2.now field_row)
