-- The lines of blocks and fields by their places, and the names of entries by what is shown of them.
use Rattle.std.proofs.Common.{◌≡◌, ℕ, zero, suc, ◌+◌, ◌-◌, ◌*◌, ◌<◌, List, [], ◌∷◌, ◌++◌, length, get_or, map, replicate, Some, IsSome, min, refl, sym, ap, subst, ◌∙◌, arith, codes}
use Rattle.std.specs.List.{range_with_len}
use Rattle.std.specs.Option.{unwrap_or}
use Rattle.std.proofs.lemmas.Bool.{ne_eqb}
use Rattle.std.proofs.lemmas.List.{get_or-map, length-map}
use Rattle.std.proofs.lemmas.List.FromFn.{fill_by_all, get_or-map-range_with_len}
use Rattle.std.proofs.lemmas.Option.{slice_get-get_or, unwrap_or-slice_get}
use Rattle.pb_fields.specs.declared.FieldKind.{FieldKind}
use Rattle.pb_fields.specs.declared.FieldKind.TheVariants as kinds
use Rattle.pb_fields.specs.Catalogue.{FieldRow, block, catalogue}
use Rattle.pb_fields.specs.Places.{block_of, fields_of}
use Rattle.pb_fields.specs.Slots.{IsSlot}
use Rattle.pb_fields.proofs.RowLemmas.{instances_some}
use Rattle.pb_fields.specs.Labels.{label_list, bit_names, position_names, bit_mux_label, position_mux_label}
use Rattle.pb_fields.specs.Values.{shown}
use Rattle.pb_replies.specs.Lists.{block_line, block_lines, field_line, field_lines_from, labels_of, position_lines, word_lines}

-- Blocks and fields.

blocks : length catalogue ≡ 12
unfolding catalogue
blocks = refl

pub length-block_lines : length block_lines ≡ 12
length-block_lines = length-map catalogue block_line ∙ blocks

-- the line of a block stands at its place
pub block_line_at : (b : ℕ) → b < 12 → block_line (block_of b) ≡ get_or block_lines b []
block_line_at b h = sym (get_or-map block_line catalogue b (block [] 0 []) [] (omega (arith, blocks)))

pub length-field_lines : (i : ℕ) (rows : List FieldRow) → length (field_lines_from i rows) ≡ length rows
length-field_lines i [] = refl
length-field_lines i (row ∷ rows) = ap suc (length-field_lines (i + 1) rows)

-- the line of a field stands at its place
pub field_line_at : (i j n : ℕ) (rows : List FieldRow) (d : FieldRow) → n < length rows → i + n ≡ j → field_line j (get_or rows n d) ≡ get_or (field_lines_from i rows) n []
field_line_at i j n [] d h e = absurd (omega arith)
field_line_at i j zero (row ∷ rows) d h e = ap (λ k. field_line k row) (omega arith)
field_line_at i j (suc n) (row ∷ rows) d h e = field_line_at (i + 1) j n rows d (omega arith) (omega arith)

-- the field in the first instance of its block
pub first_field_slot : (b f : ℕ) → b < 12 → f < length (fields_of b) → IsSlot (record { block = b; instance = 1; field = f; attr = 0 })
first_field_slot b f in_blocks in_fields =
    record {
      in_blocks = in_blocks;
      from_one = omega arith;
      in_count = instances_some b in_blocks;
      in_fields = in_fields;
      in_attributes = omega arith;
    }

-- Labels.

-- what is shown of the numbers of a list of labels is the list
pub shown_labels : (n : ℕ) → map (shown (kinds.Enum n)) (range_with_len 0 (length (label_list n))) ≡ label_list n
shown_labels n =
    sym (fill_by_all (shown (kinds.Enum n)) (label_list n) (length (label_list n)) [] refl (λ k h. sym (unwrap_or-slice_get (label_list n) k [])))

-- what is shown of what a mux selects, the constants first
pub shown_bits : map (shown kinds.BitMux) (range_with_len 128 2) ++ map (shown kinds.BitMux) (range_with_len 0 63) ≡ codes "ZERO" ∷ codes "ONE" ∷ bit_names
unfolding bit_names
shown_bits = refl

pub shown_positions : map (shown kinds.PosMux) (range_with_len 32 1) ++ map (shown kinds.PosMux) (range_with_len 0 12) ≡ codes "ZERO" ∷ position_names
unfolding position_names
shown_positions = refl

-- the same, as the labels of a kind
pub enum_labels : (kind : FieldKind) (n count : ℕ) → kind ≡ kinds.Enum n → count ≡ length (label_list n) → map (shown (kinds.Enum n)) (range_with_len 0 count) ≡ unwrap_or (labels_of kind) []
enum_labels kind n count e h = rw (e, h) (shown_labels n)

pub mux_labels : (kind mux : FieldKind) → kind ≡ mux → unwrap_or (labels_of mux) [] ≡ unwrap_or (labels_of kind) []
mux_labels kind mux e = rw e refl

-- Entries.

bits : length bit_names ≡ 63
unfolding bit_names
bits = refl

positions : length position_names ≡ 12
unfolding position_names
positions = refl

bit_label : (raw : ℕ) → raw < 63 → bit_mux_label raw ≡ Some (get_or bit_names raw [])
bit_label raw h =
    rw (ne_eqb raw 128 (λ e. absurd (omega arith)), ne_eqb raw 129 (λ e. absurd (omega arith)))
    (slice_get-get_or bit_names raw [] (omega (arith, bits)))

-- each entry that is used has a label
pub bit_label_some : (raw : ℕ) → raw < 63 → IsSome (bit_mux_label raw)
bit_label_some raw h = subst IsSome (sym (bit_label raw h)) refl

position_label : (raw : ℕ) → raw < 12 → position_mux_label raw ≡ Some (get_or position_names raw [])
position_label raw h =
    rw (ne_eqb raw 32 (λ e. absurd (omega arith)))
    (slice_get-get_or position_names raw [] (omega (arith, positions)))

pub position_label_some : (raw : ℕ) → raw < 12 → IsSome (position_mux_label raw)
position_label_some raw h = subst IsSome (sym (position_label raw h)) refl

-- the names of the positions, and the unused ones
pub all_positions : map (shown kinds.PosMux) (range_with_len 0 12) ++ replicate 20 [] ≡ position_lines
unfolding position_names position_lines
all_positions = refl

-- a word's names and its unused entries, where so many are used
abbrev word_of : ℕ → ℕ → List (List ℕ)
word_of word used = map (shown kinds.BitMux) (range_with_len (32 * word) used) ++ replicate (32 - used) []

abbrev shown_word : ℕ → List (List ℕ)
shown_word word = word_of word (min (63 - 32 * word) 32)

words_agree : map shown_word (range_with_len 0 4) ≡ map word_lines (range_with_len 0 4)
unfolding bit_names word_lines
words_agree = refl

pub word_shown : (word used : ℕ) → word < 4 → used ≡ min (63 - 32 * word) 32 → map (shown kinds.BitMux) (range_with_len (32 * word) used) ++ replicate (32 - used) [] ≡ word_lines word
word_shown word used h e =
    ap (word_of word) e
    ∙ sym (get_or-map-range_with_len shown_word 0 4 word word [] h (omega arith))
    ∙ ap (λ l. get_or l word []) words_agree
    ∙ get_or-map-range_with_len word_lines 0 4 word word [] h (omega arith)
