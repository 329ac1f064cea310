-- What is found is named by the text, and by no other slot's name.
use Rattle.std.proofs.Common.{◌≡◌, ◌⊎◌, ℕ, ◌+◌, ◌-◌, ◌<◌, ◌≤◌, ◌&&◌, Bool, true, false, cond, not, eqb, leb, ltb, List, [], ◌∷◌, ◌++◌, length, take, drop, get_or, refl, sym, ap, subst, ◌∙◌, arith, Option, Some, None, Result, Ok, append_assoc, append-nil, position, nat_eq, inl, inr, eq-eqb}
use Rattle.std.specs.List.{position_or_len}
use Rattle.std.specs.Option.{option_map}
use Rattle.std.specs.Char.{is_ascii_digit}
use Rattle.std.specs.Cmp.Lexicographic.{pointwise, same_text}
use Rattle.std.proofs.lemmas.Bool.{eqb-true, ltb-true, leb-true, ltb-false, ne_eqb}
use Rattle.std.proofs.lemmas.List.{take-append-drop, take_all}
use Rattle.std.proofs.lemmas.List.Sums.{split_at_first, prefix_len_stops}
use Rattle.std.proofs.lemmas.List.Quantifiers.{position-Some}
use Rattle.pb_words.specs.declared.refusals.Refusal.{Refusal}
use Rattle.pb_words.specs.declared.refusals.Refusal.TheVariants as refusals
use Rattle.pb_fields.specs.declared.slots.Slot.{Slot}
use Rattle.pb_fields.specs.declared.types.FieldType.TheVariants as types
use Rattle.pb_fields.specs.declared.types.Attribute.{Attribute}
use Rattle.pb_fields.specs.declared.types.Attribute.TheVariants as attributes
use Rattle.pb_fields.specs.Types.{attributes_of, attribute_text}
use Rattle.pb_fields.specs.Catalogue.{BlockRow, FieldRow, block, field, catalogue}
use Rattle.pb_fields.specs.Places.{block_of, count_of, fields_of, field_of, type_of}
use Rattle.pb_fields.specs.Slots.{IsSlot, attribute_at}
use Rattle.pb_fields.specs.Order.{slot_at}
use Rattle.pb_fields.specs.Names.{instance_text, attribute_end, target_of, numbered_target_of, IsNameOf}
use Rattle.pb_fields.proofs.RowLemmas.{and_left, and_right}
use Rattle.pb_fields.specs.Finding.{is_point, before_point, after_point, stem_of, number_of, block_with, block_named, instance_numbered, field_named, attribute_named, or_refused, slot_named, slot_of_rest, found_of}

-- a step that found its way has found something
Ok-or_refused : {A B : Type 0} (o : Option A) (e : Refusal) (next : A → Result B Refusal) (y : B) → or_refused o e next ≡ Ok y → (x : A) × (o ≡ Some x) × (next x ≡ Ok y)
Ok-or_refused None e next y h = cc
Ok-or_refused (Some x) e next y h = (x, refl, h)

Some-option_map : {A B : Type 0} (f : A → B) (o : Option A) (y : B) → option_map f o ≡ Some y → (x : A) × (o ≡ Some x) × (f x ≡ y)
Some-option_map f None y h = cc
Some-option_map f (Some x) y h = (x, refl, cc)

some_of : {A : Type 0} (x y : A) → Some x ≡ Some y → x ≡ y
some_of x y h = cc

-- a text is cut at its first point
point_by : (x : ℕ) (t : Bool) → eqb x 46 ≡ t → not t ≡ false → x ≡ 46
point_by x true e h = eqb-true x 46 e
point_by x false e h = cc

join_at : (text rest : List ℕ) (t : Bool) → ltb (position_or_len is_point text) (length text) ≡ t → option_map (λ i. drop (i + 1) text) (cond {A = Option ℕ} t (Some (position_or_len is_point text)) None) ≡ Some rest → text ≡ before_point text ++ 46 ∷ rest
join_at text rest true e h =
    let n : ℕ = position_or_len is_point text in
    let within : n < length text = ltb-true n (length text) e in
    let point : get_or text n 0 ≡ 46 =
    point_by (get_or text n 0) _ refl (prefix_len_stops (λ b. not (is_point b)) text 0 within) in
    split_at_first is_point text 0 within
    ∙ ap (λ x. take n text ++ x ∷ drop (n + 1) text) point
    ∙ ap (λ r. take n text ++ 46 ∷ r) (some_of (drop (n + 1) text) rest h)
join_at text rest false e h = cc

join : (text rest : List ℕ) → after_point text ≡ Some rest → text ≡ before_point text ++ 46 ∷ rest
join text rest h = join_at text rest _ refl h

whole_at : (text : List ℕ) (t : Bool) → ltb (position_or_len is_point text) (length text) ≡ t → option_map (λ i. drop (i + 1) text) (cond {A = Option ℕ} t (Some (position_or_len is_point text)) None) ≡ None → before_point text ≡ text
whole_at text true e h = cc
whole_at text false e h = take_all (position_or_len is_point text) text (ltb-false (position_or_len is_point text) (length text) e)

-- what stands after the field's name
abbrev end_of : Option (List ℕ) → List ℕ
end_of None = []
end_of (Some text) = 46 ∷ text

parts : (text : List ℕ) (o : Option (List ℕ)) → after_point text ≡ o → text ≡ before_point text ++ end_of o
parts text None h = sym (append-nil (before_point text) ∙ whole_at text _ refl h)
parts text (Some rest) h = join text rest h

-- what the look-ups tell of the names
pub block_by : (name : List ℕ) (b : ℕ) (t : Bool) → cond {A = Option ℕ} t (block_with (stem_of name)) None ≡ Some b → (b < 12) × ((block_of b).name ≡ stem_of name)
unfolding catalogue
block_by name b true h =
    let told = position-Some (λ (r : BlockRow). pointwise nat_eq r.name (stem_of name)) catalogue b (block [] 0 []) h in
    (told.0, same_text (block_of b).name (stem_of name) (sym told.1))
block_by name b false h = cc

pub field_told : (b f : ℕ) (name : List ℕ) → field_named b name ≡ Some f → (f < length (fields_of b)) × ((field_of b f).name ≡ name)
field_told b f name h =
    let told = position-Some (λ (r : FieldRow). pointwise nat_eq r.name name) (fields_of b) f (field [] types.Table 0) h in
    (told.0, same_text (field_of b f).name name (sym told.1))

attribute_told : (b i f a : ℕ) (o : Option (List ℕ)) → attribute_named b f o ≡ Some a → (a ≤ length (attributes_of (type_of b f))) × (attribute_end (attribute_at (slot_at b i f a)) ≡ end_of o)
attribute_told b i f a None h =
    let P : ℕ → Type 0 = λ n. (n ≤ length (attributes_of (type_of b f))) × (attribute_end (attribute_at (slot_at b i f n)) ≡ []) in
    subst P (some_of 0 a h) (omega arith, refl)
attribute_told b i f a (Some name) h =
    let all : List Attribute = attributes_of (type_of b f) in
    let at = Some-option_map (λ n. n + 1) (position (λ x. pointwise nat_eq (attribute_text x) name) all) a h in
    let k : ℕ = at.0 in
    let told = position-Some (λ x. pointwise nat_eq (attribute_text x) name) all k attributes.Info at.1 in
    let same : attribute_text (get_or all k attributes.Info) ≡ name = same_text _ name (sym told.1) in
    let some : eqb (k + 1) 0 ≡ false = ne_eqb (k + 1) 0 (λ e. omega (arith, e)) in
    let back : k + 1 - 1 ≡ k = omega arith in
    let P : ℕ → Type 0 = λ n. (n ≤ length all) × (attribute_end (attribute_at (slot_at b i f n)) ≡ 46 ∷ name) in
    subst P at.2 (
      omega (arith, told.0),
      ap (λ t. attribute_end (cond {A = Option Attribute} t None (Some (get_or all (k + 1 - 1) attributes.Info)))) some
          ∙ ap (λ n. 46 ∷ attribute_text (get_or all n attributes.Info)) back
          ∙ ap (λ l. 46 ∷ l) same,
    )

-- what a number tells of the instance
abbrev pub NumberForms : ℕ → ℕ → List ℕ → Type 0
NumberForms count i number = ((count ≡ 1) × (number ≡ [])) ⊎ (number ≡ (48 + i) ∷ [])

none_by : (count i : ℕ) (t : Bool) → eqb count 1 ≡ t → cond {A = Option ℕ} t (Some 1) None ≡ Some i → (1 ≤ i) × (i ≤ count) × NumberForms count i []
none_by count i true e h =
    let one : count ≡ 1 = eqb-true count 1 e in
    let first : 1 ≡ i = some_of 1 i h in
    (omega arith, omega arith, inl (one, refl))
none_by count i false e h = cc

digit_by : (count i digit : ℕ) (t : Bool) → (leb 49 digit && leb digit (48 + count)) ≡ t → cond {A = Option ℕ} t (Some (digit - 48)) None ≡ Some i → (1 ≤ i) × (i ≤ count) × NumberForms count i (digit ∷ [])
digit_by count i digit true e h =
    let low : 49 ≤ digit = leb-true 49 digit (and_left _ (leb digit (48 + count)) e) in
    let high : digit ≤ 48 + count = leb-true digit (48 + count) (and_right (leb 49 digit) _ e) in
    let is : digit - 48 ≡ i = some_of (digit - 48) i h in
    let back : digit ≡ 48 + i = omega arith in
    (omega arith, omega arith, inr (ap (λ d. d ∷ []) back))
digit_by count i digit false e h = cc

pub number_told : (count i : ℕ) (number : List ℕ) → instance_numbered count number ≡ Some i → (1 ≤ i) × (i ≤ count) × NumberForms count i number
number_told count i [] h = none_by count i _ refl h
number_told count i (digit ∷ []) h = digit_by count i digit _ refl h
number_told count i (digit ∷ other ∷ more) h = cc

abbrev NameForms : ℕ → ℕ → List ℕ → Type 0
NameForms b i name =
    (name ≡ instance_text b i) ⊎ ((count_of b ≡ 1) × (name ≡ (block_of b).name ++ 49 ∷ []))

name_by : (b i : ℕ) (name : List ℕ) (t : Bool) → eqb (count_of b) 1 ≡ t → 1 ≤ i → i ≤ count_of b → name ≡ (block_of b).name ++ (48 + i) ∷ [] → (name ≡ (block_of b).name ++ cond t [] ((48 + i) ∷ [])) ⊎ ((count_of b ≡ 1) × (name ≡ (block_of b).name ++ 49 ∷ []))
name_by b i name true e from_one in_count h =
    let one : count_of b ≡ 1 = eqb-true (count_of b) 1 e in
    let first : 48 + i ≡ 49 = omega arith in
    inr (one, h ∙ ap (λ d. (block_of b).name ++ d ∷ []) first)
name_by b i name false e from_one in_count h = inl h

name_forms : (b i : ℕ) (name number : List ℕ) → 1 ≤ i → i ≤ count_of b → name ≡ (block_of b).name ++ number → NumberForms (count_of b) i number → NameForms b i name
name_forms b i name number from_one in_count h (inl (one, none)) =
    inl
    (h
    ∙ ap (λ l. (block_of b).name ++ l) none
    ∙ sym (ap (λ t. (block_of b).name ++ cond {A = List ℕ} t [] ((48 + i) ∷ [])) (eq-eqb (count_of b) 1 one))
    )
name_forms b i name number from_one in_count h (inr digit) =
    name_by b i name (eqb (count_of b) 1) refl from_one in_count (h ∙ ap (λ l. (block_of b).name ++ l) digit)

after_told : (b i : ℕ) (o : Option (List ℕ)) (slot : Slot) → slot_of_rest b i o ≡ Ok slot → (rest : List ℕ) × (o ≡ Some rest) × (slot_named b i rest ≡ Ok slot)
after_told b i None slot h = cc
after_told b i (Some rest) slot h = (rest, refl, h)

ok_of : (x y : Slot) (r : Result Slot Refusal) → r ≡ Ok x → r ≡ Ok y → x ≡ y
ok_of x y r h g = cc

either : {A B C D : Type 0} → (A → C) → (B → D) → A ⊎ B → C ⊎ D
either f g (inl a) = inl (f a)
either f g (inr b) = inr (g b)

-- the text, from a name of its block and what stands after its point
text_of : (text name rest : List ℕ) (this : Slot) → text ≡ before_point text ++ 46 ∷ rest → before_point text ≡ name → rest ≡ (field_of this.block this.field).name ++ attribute_end (attribute_at this) → text ≡ name ++ 46 ∷ (field_of this.block this.field).name ++ attribute_end (attribute_at this)
text_of text name rest this cut named tail =
    cut
    ∙ ap (λ l. l ++ 46 ∷ rest) named
    ∙ ap (λ r. name ++ 46 ∷ r) tail
    ∙ sym (append_assoc name (46 ∷ (field_of this.block this.field).name) (attribute_end (attribute_at this)))

pub found_of-named : (text : List ℕ) (slot : Slot) → found_of text ≡ Ok slot → IsSlot slot × IsNameOf text slot
found_of-named text slot h =
    let name : List ℕ = before_point text in
    let at_block = Ok-or_refused (block_named name) refusals.NoSuchBlock (λ b. or_refused (instance_numbered (count_of b) (number_of name)) refusals.BlockNumberOutOfRange (λ i. slot_of_rest b i (after_point text))) slot h in
    let b : ℕ = at_block.0 in
    let told_block = block_by name b _ at_block.1 in
    let at_instance = Ok-or_refused (instance_numbered (count_of b) (number_of name)) refusals.BlockNumberOutOfRange (λ i. slot_of_rest b i (after_point text)) slot at_block.2 in
    let i : ℕ = at_instance.0 in
    let told_number = number_told (count_of b) i (number_of name) at_instance.1 in
    let after = after_told b i (after_point text) slot at_instance.2 in
    let rest : List ℕ = after.0 in
    let at_field = Ok-or_refused (field_named b (before_point rest)) refusals.NoSuchField (λ f. or_refused (attribute_named b f (after_point rest)) refusals.NoSuchAttribute (λ a. Ok (slot_at b i f a))) slot after.2 in
    let f : ℕ = at_field.0 in
    let told_field = field_told b f (before_point rest) at_field.1 in
    let at_attribute = Ok-or_refused (attribute_named b f (after_point rest)) refusals.NoSuchAttribute (λ a. Ok (slot_at b i f a)) slot at_field.2 in
    let a : ℕ = at_attribute.0 in
    let told_attribute = attribute_told b i f a (after_point rest) at_attribute.1 in
    let this : Slot = slot_at b i f a in
    let same : this ≡ slot = ok_of this slot (Ok this) refl at_attribute.2 in
    let is_slot : IsSlot this =
    record {
      in_blocks = told_block.0;
      from_one = told_number.0;
      in_count = told_number.1;
      in_fields = told_field.0;
      in_attributes = told_attribute.0;
    } in
    let tail : rest ≡ (field_of b f).name ++ attribute_end (attribute_at this) =
    parts rest (after_point rest) refl
    ∙ ap (λ l. l ++ end_of (after_point rest)) (sym told_field.1)
    ∙ ap (λ l. (field_of b f).name ++ l) (sym told_attribute.1) in
    let cut : text ≡ name ++ 46 ∷ rest = join text rest after.1 in
    let whole : name ≡ (block_of b).name ++ number_of name =
    sym (take-append-drop (position_or_len is_ascii_digit name) name)
    ∙ ap (λ l. l ++ number_of name) (sym told_block.1) in
    let named : IsNameOf text this =
    either {C = text ≡ target_of this} {D = (count_of b ≡ 1) × (text ≡ numbered_target_of this)} (λ e. text_of text (instance_text b i) rest this cut e tail)
    (λ e. (e.0, text_of text ((block_of b).name ++ 49 ∷ []) rest this cut e.1 tail))
    (name_forms b i name (number_of name) told_number.0 told_number.1 whole told_number.2) in
    let P : Slot → Type 0 = λ s. IsSlot s × IsNameOf text s in
    subst P same (is_slot, named)
