use Rattle.std.proofs.Common.{◌<◌, length, [], ap, arith}
use Rattle.pb_fields.specs.declared.types.FieldType.TheVariants as types
use Rattle.pb_fields.specs.Catalogue.{BlockRow, FieldRow, field}
use Rattle.pb_fields.specs.Places.{fields_of}
use Rattle.pb_fields.specs.Rows.{field_row}
use Rattle.pb_fields.proofs.RowLemmas.{row_at, no_field, field_short}
use Rattle.pb_fields.proofs.tables.field_at.Goals as goal

pub returns-clause-short : goal.returns-clause-short
returns-clause-short c =
    let b = c.args.block in
    let f = c.args.field in
    let lt : f < length c.block_at.result.2.now = omega arith in
    omega (arith, field_short b f, ap (λ (r : FieldRow). length r.name) (row_at field_row _ (fields_of b) f no_field (field [] types.Table 0) (ap (λ (r : BlockRow). r.fields) c.block_at.ensures.row) lt))
