-- Words of private helpers: no public clause cites them.
-- The rows of the table in the source, as rows of the catalogue.
use Rattle.std.specs.Prelude.{map}
use Rattle.pb_fields.specs.declared.tables.Field.{Field}
use Rattle.pb_fields.specs.declared.tables.Block.{Block}
use Rattle.pb_fields.specs.Catalogue.{FieldRow, BlockRow}

abbrev pub field_row : Field → FieldRow
field_row f = record { name = f.0.now; holds = f.1; default = f.2 }

abbrev pub block_row : Block → BlockRow
block_row b = record { name = b.0.now; count = b.1; fields = map field_row b.2.now }
