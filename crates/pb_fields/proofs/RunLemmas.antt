-- The runs of the table in the source give the entries of both buses.
use Rattle.std.proofs.Common.{◌≡◌, ℕ, ◌+◌, ◌-◌, ◌*◌, ◌/◌, ◌%◌, ◌<◌, ◌≤◌, ◌==◌, ◌&&◌, Bool, true, false, cond, leb, ltb, List, [], ◌∷◌, length, map, find, get_or, refl, sym, eq-eqb, ap, subst, ◌∙◌, arith, Option, Some, None, IfSome, if◌then◌else◌}
use Rattle.std.specs.List.{list_all, range_with_len}
use Rattle.std.specs.Option.{option_map}
use Rattle.std.proofs.lemmas.Bool.{leb-true, ltb-true}
use Rattle.std.proofs.lemmas.List.FromFn.{get_or-map-range_with_len}
use Rattle.pb_fields.specs.declared.slots.Slot.{Slot}
use Rattle.pb_fields.specs.declared.entries.Run.{Run}
use Rattle.pb_fields.specs.declared.entries.TheConstants.{RUNS}
use Rattle.pb_fields.specs.Runs.{run_with, run_around, IsAround}
use Rattle.pb_fields.specs.Catalogue.{catalogue}
use Rattle.pb_fields.specs.Places.{count_of, fields_of}
use Rattle.pb_fields.specs.Order.{slot_at}
use Rattle.pb_fields.specs.Slots.{IsSlot}
use Rattle.pb_fields.specs.Entries.{bit_entries, pos_entries, at_entry_of, field_entry, entry_of}
use Rattle.pb_fields.proofs.RowLemmas.{and_left, and_right}

-- what is found passes the test
passes_here : {X : Type 0} (p : X → Bool) (x : X) (o : Option X) (b : Bool) → p x ≡ b → IfSome o (λ y. p y ≡ true) → IfSome (cond b (Some x) o) (λ y. p y ≡ true)
passes_here p x o true e h = e
passes_here p x o false e h = h

find_passes : {X : Type 0} (p : X → Bool) (xs : List X) → IfSome (find p xs) (λ y. p y ≡ true)
find_passes p [] = tt
find_passes p (x ∷ xs) = passes_here p x (find p xs) (p x) refl (find_passes p xs)

-- what is found has what all have
has_here : {X : Type 0} (q : X → Bool) (x : X) (o : Option X) (b : Bool) → q x ≡ true → IfSome o (λ y. q y ≡ true) → IfSome (cond b (Some x) o) (λ y. q y ≡ true)
has_here q x o true e h = e
has_here q x o false e h = h

find_among : {X : Type 0} (p q : X → Bool) (xs : List X) → list_all q xs ≡ true → IfSome (find p xs) (λ y. q y ≡ true)
find_among p q [] h = tt
find_among p q (x ∷ xs) h = has_here q x (find p xs) (p x) (and_left _ _ h) (find_among p q xs (and_right _ _ h))

IfSome-both : {X : Type 0} (P Q R : X → Type 0) (o : Option X) → ((x : X) → P x → Q x → R x) → IfSome o P → IfSome o Q → IfSome o R
IfSome-both P Q R None h p q = tt
IfSome-both P Q R (Some x) h p q = h x p q

-- a run that is found by a field has that field
abbrev has_field : ℕ → ℕ → Run → Bool
has_field block field r = r.block == block && leb r.field field && leb field r.last_field

pub with_field : (block field : ℕ) → IfSome (run_with block field) (λ run. run.field ≤ field)
unfolding run_with
with_field block field =
    let P : Run → Type 0 = λ r. has_field block field r ≡ true in
    let found : IfSome (find (has_field block field) RUNS) P = find_passes (has_field block field) RUNS in
    IfSome-both P P (λ run. run.field ≤ field) (find (has_field block field) RUNS)
    (λ run h g. leb-true run.field field (and_right (run.block == block) _ (and_left _ (leb field run.last_field) h)))
    found found

-- a run that is found by an entry begins at that entry or before it, and is one of the table
abbrev has_entry : ℕ → Run → Bool
has_entry entry r = leb r.first entry && leb entry r.last

abbrev is_small : Run → Bool
is_small r = leb r.last 139 && leb 1 r.outputs && leb r.outputs 7 && leb r.field 20

pub around_entry : (entry : ℕ) → IfSome (run_around entry) (IsAround entry)
unfolding run_around
around_entry entry =
    IfSome-both (λ r. has_entry entry r ≡ true) (λ r. is_small r ≡ true) (IsAround entry) (find (has_entry entry) RUNS)
    (λ run h g.
    let last : entry ≤ run.last = leb-true _ _ (and_right (leb run.first entry) _ h) in
    let top : run.last ≤ 139 = leb-true _ _ (and_left _ _ (and_left _ _ (and_left _ _ g))) in
    record {
      from_first = leb-true _ _ (and_left _ (leb entry run.last) h);
      used = omega arith;
      outputs = leb-true _ _ (and_right (leb run.last 139) _ (and_left _ _ (and_left _ _ g)));
      few = leb-true _ _ (and_right (leb run.last 139 && leb 1 run.outputs) _ (and_left _ _ g));
      field = leb-true _ _ (and_right (leb run.last 139 && leb 1 run.outputs && leb run.outputs 7) _ g);
    })
    (find_passes (has_entry entry) RUNS)
    (find_among (has_entry entry) is_small RUNS refl)

-- the slot at an entry, by the run that has the entry
abbrev pub slot_in : ℕ → Run → Slot
slot_in entry run =
    slot_at run.block ((entry - run.first) / run.outputs + 1) (run.field + (entry - run.first) % run.outputs) 0

abbrev slot_by_run : ℕ → Option Slot
slot_by_run entry = option_map (slot_in entry) (run_around entry)

entries_agree : map slot_by_run (range_with_len 0 256) ≡ map at_entry_of (range_with_len 0 256)
unfolding catalogue bit_entries pos_entries run_around
entries_agree = refl

pub at_entry_by_run : (entry : ℕ) → entry < 256 → option_map (slot_in entry) (run_around entry) ≡ at_entry_of entry
at_entry_by_run entry h =
    sym (get_or-map-range_with_len slot_by_run 0 256 entry entry None h (omega arith))
    ∙ ap (λ l. get_or l entry None) entries_agree
    ∙ get_or-map-range_with_len at_entry_of 0 256 entry entry None h (omega arith)

-- the entry of a field, by the run that has the field
abbrev pub entry_in : ℕ → ℕ → Run → ℕ
entry_in i f run = run.first + (i - 1) * run.outputs + (f - run.field)

abbrev entry_by_run : ℕ → ℕ → ℕ → Option ℕ
entry_by_run b i f = option_map (entry_in i f) (run_with b f)

-- a function of the fields of all instances, as a table
abbrev pub of_fields : {X : Type 0} → (ℕ → ℕ → ℕ → Option X) → List (List (List (Option X)))
of_fields F =
    map (λ b. map (λ i. map (F b i) (range_with_len 0 (length (fields_of b)))) (range_with_len 1 (count_of b)))
    (range_with_len 0 12)

pub of_fields-at : {X : Type 0} (F : ℕ → ℕ → ℕ → Option X) (b i f : ℕ) → b < 12 → 1 ≤ i → i ≤ count_of b → f < length (fields_of b) → get_or (get_or (get_or (of_fields F) b []) (i - 1) []) f None ≡ F b i f
of_fields-at {X} F b i f in_blocks from_one in_count in_fields =
    let of_block : ℕ → List (List (Option X)) = λ n. map (λ i. map (F n i) (range_with_len 0 (length (fields_of n)))) (range_with_len 1 (count_of n)) in
    let of_instance : ℕ → List (Option X) = λ i. map (F b i) (range_with_len 0 (length (fields_of b))) in
    ap (λ l. get_or (get_or l (i - 1) []) f None) (get_or-map-range_with_len of_block 0 12 b b [] in_blocks (omega arith))
    ∙ ap (λ l. get_or l f None) (get_or-map-range_with_len of_instance 1 (count_of b) (i - 1) i [] (omega arith) (omega arith))
    ∙ get_or-map-range_with_len (F b i) 0 (length (fields_of b)) f f None in_fields (omega arith)

fields_agree : of_fields entry_by_run ≡ of_fields field_entry
unfolding catalogue bit_entries pos_entries run_with
fields_agree = refl

-- 1 for no entry and for one below 160
abbrev fits : Option ℕ → Option ℕ
fits None = Some 1
fits (Some n) = if ltb n 160 then Some 1 else None

fields_fit : of_fields (λ b i f. fits (field_entry b i f)) ≡ of_fields (λ b i f. Some 1)
unfolding catalogue bit_entries pos_entries
fields_fit = refl

pub entry_by_field : (b i f : ℕ) → b < 12 → 1 ≤ i → i ≤ count_of b → f < length (fields_of b) → option_map (entry_in i f) (run_with b f) ≡ field_entry b i f
entry_by_field b i f in_blocks from_one in_count in_fields =
    sym (of_fields-at entry_by_run b i f in_blocks from_one in_count in_fields)
    ∙ ap (λ l. get_or (get_or (get_or l b []) (i - 1) []) f None) fields_agree
    ∙ of_fields-at field_entry b i f in_blocks from_one in_count in_fields

fits-below : (o : Option ℕ) → fits o ≡ Some 1 → IfSome o (λ n. n < 160)
fits-below None h = tt
fits-below (Some n) h = below (ltb n 160) refl h
  where
    below : (t : Bool) → ltb n 160 ≡ t → cond {A = Option ℕ} t (Some 1) None ≡ Some 1 → n < 160
    below true e g = ltb-true n 160 e
    below false e g = cc

field_entry-below : (b i f : ℕ) → b < 12 → 1 ≤ i → i ≤ count_of b → f < length (fields_of b) → IfSome (field_entry b i f) (λ n. n < 160)
field_entry-below b i f in_blocks from_one in_count in_fields =
    fits-below _
    (sym (of_fields-at (λ b i f. fits (field_entry b i f)) b i f in_blocks from_one in_count in_fields)
    ∙ ap (λ l. get_or (get_or (get_or l b []) (i - 1) []) f None) fields_fit
    ∙ of_fields-at (λ b i f. Some 1) b i f in_blocks from_one in_count in_fields)

-- the entry of a field is small
pub entry_in-below : (slot : Slot) (run : Run) → IsSlot slot → Some run ≡ run_with slot.block slot.field → entry_in slot.instance slot.field run < 160
entry_in-below slot run s found =
    let e : Some (entry_in slot.instance slot.field run) ≡ field_entry slot.block slot.instance slot.field =
    ap (option_map (entry_in slot.instance slot.field)) found
    ∙ entry_by_field slot.block slot.instance slot.field s.in_blocks s.from_one s.in_count s.in_fields in
    let P : Option ℕ → Type 0 = λ o. IfSome o (λ n. n < 160) in
    subst P (sym e) (field_entry-below slot.block slot.instance slot.field s.in_blocks s.from_one s.in_count s.in_fields)

-- a field's entry, by the run that is found for it
pub entry_of-field : (slot : Slot) (o : Option Run) → IsSlot slot → slot.attr ≡ 0 → o ≡ run_with slot.block slot.field → option_map (entry_in slot.instance slot.field) o ≡ entry_of slot
entry_of-field slot o s field found =
    ap (option_map (entry_in slot.instance slot.field)) found
    ∙ entry_by_field slot.block slot.instance slot.field s.in_blocks s.from_one s.in_count s.in_fields
    ∙ sym (ap (λ (t : Bool). cond {A = Option ℕ} t (field_entry slot.block slot.instance slot.field) None) (eq-eqb slot.attr 0 field))
