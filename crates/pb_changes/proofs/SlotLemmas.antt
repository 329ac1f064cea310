-- The slots of the catalogue are slots, and what a line of each group shows.
use Rattle.std.proofs.Common.{◌≡◌, ℕ, ◌<◌, ◌&&◌, Bool, true, ltb, leb, length, map, get_or, Option, Some, refl, ap, sym, ◌∙◌, arith}
use Rattle.std.specs.List.{list_all, range_with_len}
use Rattle.std.specs.Option.{unwrap_or}
use Rattle.std.proofs.lemmas.Bool.{ltb-true, leb-true}
use Rattle.std.proofs.lemmas.List.FromFn.{get_or-map-range_with_len}
use Rattle.pb_fields.specs.declared.Slot.{Slot}
use Rattle.pb_fields.specs.Catalogue.{catalogue}
use Rattle.pb_fields.specs.Places.{count_of, fields_of, type_of}
use Rattle.pb_fields.specs.Slots.{IsSlot}
use Rattle.pb_fields.specs.Order.{slots}
use Rattle.pb_fields.specs.Entries.{bit_entries, pos_entries, field_entry, output_entry}
use Rattle.pb_fields.specs.Types.{attributes_of}
use Rattle.pb_fields.proofs.RowLemmas.{and_left, and_right}
use Rattle.pb_fields.proofs.RunLemmas.{of_fields}
use Rattle.pb_fields.proofs.EntryLaws.{agree}

-- the slot is in the catalogue, as a test
abbrev pub is_slot : Slot → Bool
is_slot s =
    ltb s.block 12 && (leb 1 s.instance && (leb s.instance (count_of s.block) && (ltb s.field (length (fields_of s.block))
    && leb s.attr (length (attributes_of (type_of s.block s.field))))))

pub slot_from : (s : Slot) → is_slot s ≡ true → IsSlot s
slot_from s h =
    let second = and_right (ltb s.block 12) _ h in
    let third = and_right (leb 1 s.instance) _ second in
    let fourth = and_right (leb s.instance (count_of s.block)) _ third in
    record {
      in_blocks = ltb-true s.block 12 (and_left _ _ h);
      from_one = leb-true 1 s.instance (and_left _ _ second);
      in_count = leb-true s.instance (count_of s.block) (and_left _ _ third);
      in_fields = ltb-true s.field (length (fields_of s.block)) (and_left _ _ fourth);
      in_attributes = leb-true s.attr (length (attributes_of (type_of s.block s.field))) (and_right (ltb s.field (length (fields_of s.block))) _ fourth);
    }

pub all_slots : list_all is_slot slots ≡ true
unfolding slots catalogue
all_slots = refl

-- two functions of the places of the read fields that agree
pub at_place : {X : Type 0} (F G : ℕ → X) (d : X) → map F (range_with_len 0 24) ≡ map G (range_with_len 0 24) → (place : ℕ) → place < 24 → F place ≡ G place
at_place F G d same place h =
    sym (get_or-map-range_with_len F 0 24 place place d h (omega arith))
    ∙ ap (λ l. get_or l place d) same
    ∙ get_or-map-range_with_len G 0 24 place place d h (omega arith)

-- the entry of an output is one of both buses
small_entry : ℕ → ℕ → ℕ → Option Bool
small_entry b i f = Some (ltb (unwrap_or (field_entry b i f) 0) 160)

yes : ℕ → ℕ → ℕ → Option Bool
yes b i f = Some true

all_small : of_fields small_entry ≡ of_fields yes
unfolding small_entry yes catalogue bit_entries pos_entries
all_small = refl

some_of : {X : Type 0} (x y : X) → Some x ≡ Some y → x ≡ y
some_of x y h = cc

pub entry_small : (slot : Slot) → IsSlot slot → output_entry slot < 160
unfolding small_entry yes
entry_small slot s = ltb-true (output_entry slot) 160 (some_of _ _ (agree small_entry yes all_small slot s))
