-- What the catalogue answers in several lines.
use Rattle.std.specs.Prelude.{ℕ, ◌+◌, ◌*◌, List, [], ◌∷◌, ◌++◌, map, slice_index_or, Option, Some, None, codes, decimal}
use Rattle.std.specs.List.{range_with_len}
use Rattle.pb_names.specs.declared.bit_bus.TheConstants as bit_bus
use Rattle.pb_names.specs.declared.position_bus.TheConstants as position_bus
use Rattle.pb_fields.specs.declared.Slot.{Slot}
use Rattle.pb_fields.specs.declared.FieldKind.{FieldKind}
use Rattle.pb_fields.specs.declared.FieldKind.TheVariants as kinds
use Rattle.pb_fields.specs.Types.{attribute_text, type_text}
use Rattle.pb_fields.specs.Catalogue.{BlockRow, FieldRow, catalogue}
use Rattle.pb_fields.specs.Places.{fields_of}
use Rattle.pb_fields.specs.Slots.{attributes_at, kind_of}
use Rattle.pb_fields.specs.Labels.{label_list, bit_names, position_names}

-- a block with its count
abbrev pub block_line : BlockRow → List ℕ
block_line row = row.name ++ codes " " ++ decimal row.count

-- the blocks in their order
abbrev pub block_lines : List (List ℕ)
block_lines = map block_line catalogue

-- a field with its place in the block and its type
abbrev pub field_line : ℕ → FieldRow → List ℕ
field_line i row = row.name ++ codes " " ++ decimal i ++ codes " " ++ type_text row.holds

-- fields of which the first has this place
abbrev pub field_lines_from : ℕ → List FieldRow → List (List ℕ)
field_lines_from i [] = []
field_lines_from i (row ∷ rows) = field_line i row ∷ field_lines_from (i + 1) rows

-- the fields of a block in their order
abbrev pub field_lines : ℕ → List (List ℕ)
field_lines b = field_lines_from 0 (fields_of b)

-- the attributes of a slot's field in their order
abbrev pub attribute_lines : Slot → List (List ℕ)
attribute_lines slot = map attribute_text (attributes_at slot)

-- the labels of a kind that has labels, in the order of their numbers; a mux's constants come first
abbrev pub labels_of : FieldKind → Option (List (List ℕ))
labels_of (kinds.Enum labels) = Some (label_list labels)
labels_of kinds.BitMux = Some (codes "ZERO" ∷ codes "ONE" ∷ bit_names)
labels_of kinds.PosMux = Some (codes "ZERO" ∷ position_names)
labels_of _ = None

-- the labels of an enumeration, of a mux, of CAPTURE or of the units of a time
abbrev pub labels_at : Slot → Option (List (List ℕ))
labels_at slot = labels_of (kind_of slot)

-- the name at a place of a list; an unused place has none
abbrev pub name_at : List (List ℕ) → ℕ → List ℕ
name_at names i = slice_index_or names i []

-- the names of all entries of the position bus
unfoldable pub position_lines : List (List ℕ)
position_lines = map (name_at position_names) (range_with_len 0 position_bus.WIDTH)

-- the names of the entries of a word of the bit bus
unfoldable pub word_lines : ℕ → List (List ℕ)
word_lines word = map (name_at bit_names) (range_with_len (bit_bus.WORD * word) bit_bus.WORD)

-- the fields of a row of a sequencer's table, by the place of their bits in the row
unfoldable pub row_lines : List (List ℕ)
row_lines =
    codes "15:0 REPEATS"
    ∷ codes "19:16 TRIGGER"
    ∷ codes "20:20 OUTA1"
    ∷ codes "21:21 OUTB1"
    ∷ codes "22:22 OUTC1"
    ∷ codes "23:23 OUTD1"
    ∷ codes "24:24 OUTE1"
    ∷ codes "25:25 OUTF1"
    ∷ codes "26:26 OUTA2"
    ∷ codes "27:27 OUTB2"
    ∷ codes "28:28 OUTC2"
    ∷ codes "29:29 OUTD2"
    ∷ codes "30:30 OUTE2"
    ∷ codes "31:31 OUTF2"
    ∷ codes "63:32 POSITION"
    ∷ codes "95:64 TIME1"
    ∷ codes "127:96 TIME2"
    ∷ []
