-- Entries and outputs belong to each other.
use Rattle.std.proofs.Common.{◌≡◌, ℕ, ◌-◌, ◌<◌, ◌==◌, ◌&&◌, ◌||◌, Bool, true, false, cond, eqb, ltb, leb, [], length, map, get_or, refl, sym, ap, subst, ◌∙◌, arith, Option, Some, None, IfSome, is_some}
use Rattle.std.specs.List.{range_with_len}
use Rattle.std.specs.Option.{option_map}
use Rattle.std.proofs.lemmas.Bool.{eqb-true, ltb-true, leb-true}
use Rattle.std.proofs.lemmas.List.FromFn.{get_or-map-range_with_len}
use Rattle.pb_fields.specs.declared.slots.Slot.{Slot}
use Rattle.pb_fields.specs.Catalogue.{catalogue}
use Rattle.pb_fields.specs.Places.{count_of, fields_of, type_of}
use Rattle.pb_fields.specs.Slots.{IsSlot}
use Rattle.pb_fields.specs.Order.{slot_at}
use Rattle.pb_fields.specs.Entries.{bit_entries, pos_entries, at_entry_of, field_entry, entry_of, is_bit_out, is_pos_out}
use Rattle.pb_fields.specs.Types.{attributes_of}
use Rattle.pb_fields.proofs.RowLemmas.{and_left, and_right}
use Rattle.pb_fields.proofs.RunLemmas.{of_fields, of_fields-at}

-- what two maps agree on
IfSome-same : {X Y : Type 0} (f : X → Y) (y : Y) (o : Option X) → option_map f o ≡ option_map (λ _. y) o → IfSome o (λ x. f x ≡ y)
IfSome-same f y None h = tt
IfSome-same f y (Some x) h = cc

driver : ℕ → Option (Option ℕ)
driver entry = option_map entry_of (at_entry_of entry)

itself : ℕ → Option (Option ℕ)
itself entry = option_map (λ _. Some entry) (at_entry_of entry)

drivers : map driver (range_with_len 0 256) ≡ map itself (range_with_len 0 256)
unfolding driver itself catalogue bit_entries pos_entries
drivers = refl

pub at_entry-entry : (entry : ℕ) → entry < 256 → IfSome (at_entry_of entry) (λ slot. entry_of slot ≡ Some entry)
unfolding driver itself
at_entry-entry entry h =
    IfSome-same entry_of (Some entry) (at_entry_of entry)
    (sym (get_or-map-range_with_len driver 0 256 entry entry None h (omega arith))
    ∙ ap (λ l. get_or l entry None) drivers
    ∙ get_or-map-range_with_len itself 0 256 entry entry None h (omega arith))

driven : ℕ → ℕ → ℕ → Option (Option Slot)
driven b i f = option_map at_entry_of (field_entry b i f)

same_field : ℕ → ℕ → ℕ → Option (Option Slot)
same_field b i f = option_map (λ _. Some (slot_at b i f 0)) (field_entry b i f)

driven_fields : of_fields driven ≡ of_fields same_field
unfolding driven same_field catalogue bit_entries pos_entries
driven_fields = refl

-- a field that has an entry, and an output
has_entry : ℕ → ℕ → ℕ → Option Bool
has_entry b i f = Some (is_some (field_entry b i f))

is_output : ℕ → ℕ → ℕ → Option Bool
is_output b i f = Some (is_bit_out (type_of b f) || is_pos_out (type_of b f))

outputs : of_fields has_entry ≡ of_fields is_output
unfolding has_entry is_output catalogue bit_entries pos_entries
outputs = refl

pub agree : {X : Type 0} (F G : ℕ → ℕ → ℕ → Option X) → of_fields F ≡ of_fields G → (slot : Slot) → IsSlot slot → F slot.block slot.instance slot.field ≡ G slot.block slot.instance slot.field
agree F G h slot s =
    sym (of_fields-at F slot.block slot.instance slot.field s.in_blocks s.from_one s.in_count s.in_fields)
    ∙ ap (λ l. get_or (get_or (get_or l slot.block []) (slot.instance - 1) []) slot.field None) h
    ∙ of_fields-at G slot.block slot.instance slot.field s.in_blocks s.from_one s.in_count s.in_fields

field_driven : (slot : Slot) → IsSlot slot → IfSome (field_entry slot.block slot.instance slot.field) (λ entry. at_entry_of entry ≡ Some (slot_at slot.block slot.instance slot.field 0))
unfolding driven same_field
field_driven slot s =
    IfSome-same at_entry_of (Some (slot_at slot.block slot.instance slot.field 0)) (field_entry slot.block slot.instance slot.field) (agree driven same_field driven_fields slot s)

pub entry-at_entry : (slot : Slot) → IsSlot slot → IfSome (entry_of slot) (λ entry. at_entry_of entry ≡ Some slot)
entry-at_entry slot s = by_attr (eqb slot.attr 0) refl
  where
    by_attr : (t : Bool) → eqb slot.attr 0 ≡ t → IfSome (cond t (field_entry slot.block slot.instance slot.field) None) (λ entry. at_entry_of entry ≡ Some slot)
    by_attr true e =
        let P : ℕ → Type 0 = λ a. IfSome (field_entry slot.block slot.instance slot.field) (λ entry. at_entry_of entry ≡ Some (slot_at slot.block slot.instance slot.field a)) in
        subst P (sym (eqb-true slot.attr 0 e)) (field_driven slot s)
    by_attr false e = tt

some_of : {X : Type 0} (x y : X) → Some x ≡ Some y → x ≡ y
some_of x y h = cc

pub entry-is_some : (slot : Slot) → IsSlot slot → is_some (entry_of slot) ≡ (slot.attr == 0 && (is_bit_out (type_of slot.block slot.field) || is_pos_out (type_of slot.block slot.field)))
unfolding has_entry is_output
entry-is_some slot s = by_attr (eqb slot.attr 0)
  where
    by_attr : (t : Bool) → is_some (cond t (field_entry slot.block slot.instance slot.field) None) ≡ (t && (is_bit_out (type_of slot.block slot.field) || is_pos_out (type_of slot.block slot.field)))
    by_attr true = some_of _ _ (agree has_entry is_output outputs slot s)
    by_attr false = refl

-- what drives an entry is in the catalogue
abbrev is_in : Slot → Bool
is_in s =
    ltb s.block 12 && leb 1 s.instance && leb s.instance (count_of s.block) && ltb s.field (length (fields_of s.block))
    && leb s.attr (length (attributes_of (type_of s.block s.field)))

IsSlot-from : (s : Slot) → is_in s ≡ true → IsSlot s
IsSlot-from s h =
    let first = and_left _ _ h in
    let second = and_left _ _ first in
    let third = and_left _ _ second in
    record {
      in_blocks = ltb-true s.block 12 (and_left _ _ third);
      from_one = leb-true 1 s.instance (and_right (ltb s.block 12) _ third);
      in_count = leb-true s.instance (count_of s.block) (and_right (ltb s.block 12 && leb 1 s.instance) _ second);
      in_fields = ltb-true s.field (length (fields_of s.block)) (and_right (ltb s.block 12 && leb 1 s.instance && leb s.instance (count_of s.block)) _ first);
      in_attributes = leb-true s.attr (length (attributes_of (type_of s.block s.field))) (and_right (ltb s.block 12 && leb 1 s.instance && leb s.instance (count_of s.block) && ltb s.field (length (fields_of s.block))) _ h);
    }

checked : ℕ → Option Bool
checked entry = option_map is_in (at_entry_of entry)

passed : ℕ → Option Bool
passed entry = option_map (λ _. true) (at_entry_of entry)

all_in : map checked (range_with_len 0 256) ≡ map passed (range_with_len 0 256)
unfolding checked passed catalogue bit_entries pos_entries
all_in = refl

IfSome-in : (o : Option Slot) → IfSome o (λ s. is_in s ≡ true) → IfSome o (λ s. IsSlot s)
IfSome-in None h = tt
IfSome-in (Some s) h = IsSlot-from s h

pub at_entry-slot : (entry : ℕ) → entry < 256 → IfSome (at_entry_of entry) (λ s. IsSlot s)
unfolding checked passed
at_entry-slot entry h =
    IfSome-in (at_entry_of entry)
    (IfSome-same is_in true (at_entry_of entry)
    (sym (get_or-map-range_with_len checked 0 256 entry entry None h (omega arith))
    ∙ ap (λ l. get_or l entry None) all_in
    ∙ get_or-map-range_with_len passed 0 256 entry entry None h (omega arith)))
