-- What stands at each place of the catalogue.
use Rattle.std.specs.Prelude.{ℕ, List, [], slice_index_or}
use Rattle.pb_fields.specs.declared.types.FieldType.{FieldType}
use Rattle.pb_fields.specs.declared.types.FieldType.TheVariants as types
use Rattle.pb_fields.specs.Catalogue.{FieldRow, BlockRow, field, block, catalogue}

-- the row of a block; beyond the last block there is none, and its row is empty
abbrev pub block_of : ℕ → BlockRow
block_of b = slice_index_or catalogue b (block [] 0 [])

-- how many instances of the block there are
abbrev pub count_of : ℕ → ℕ
count_of b = (block_of b).count

-- its fields in their order
abbrev pub fields_of : ℕ → List FieldRow
fields_of b = (block_of b).fields

-- the row of a field; beyond the last field there is none, and its row has no name
abbrev pub field_of : ℕ → ℕ → FieldRow
field_of b f = slice_index_or (fields_of b) f (field [] types.Table 0)

-- the type of a field
abbrev pub type_of : ℕ → ℕ → FieldType
type_of b f = (field_of b f).holds
