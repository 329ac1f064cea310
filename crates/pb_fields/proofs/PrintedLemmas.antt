-- What is printed for a slot is found as that slot.
use Rattle.std.proofs.Common.{◌≡◌, ℕ, ◌+◌, ◌-◌, ◌<◌, ◌≤◌, Bool, true, false, cond, not, eqb, List, [], ◌∷◌, ◌++◌, length, map, get_or, refl, sym, ap, ◌∙◌, arith, Option, Some, None, Ok, append_assoc, append-nil, position, nat_eq, inl, inr}
use Rattle.std.specs.List.{list_all, range_with_len}
use Rattle.std.specs.Option.{option_map}
use Rattle.std.specs.Char.{is_ascii_digit}
use Rattle.std.specs.Cmp.Lexicographic.{pointwise}
use Rattle.std.proofs.lemmas.Bool.{eqb-true, eqb-false}
use Rattle.std.proofs.lemmas.List.Folds.{list_all-append}
use Rattle.std.proofs.lemmas.List.FromFn.{get_or-map-range_with_len}
use Rattle.pb_words.specs.declared.refusals.Refusal.TheVariants as refusals
use Rattle.pb_fields.specs.declared.slots.Slot.{Slot}
use Rattle.pb_fields.specs.declared.types.FieldType.{FieldType}
use Rattle.pb_fields.specs.declared.types.FieldType.TheVariants as types
use Rattle.pb_fields.specs.declared.types.Attribute.{Attribute}
use Rattle.pb_fields.specs.declared.types.Attribute.TheVariants as attributes
use Rattle.pb_fields.specs.Types.{attributes_of, attribute_text}
use Rattle.pb_fields.specs.Catalogue.{catalogue}
use Rattle.pb_fields.specs.Places.{block_of, count_of, field_of, type_of}
use Rattle.pb_fields.specs.Slots.{IsSlot, attributes_at, attribute_at}
use Rattle.pb_fields.specs.Names.{number_text, instance_text, attribute_end, target_of, IsNameOf}
use Rattle.pb_fields.specs.Finding.{is_point, before_point, after_point, stem_of, number_of, block_with, block_named, instance_numbered, field_named, attribute_named, or_refused, slot_named, slot_of_rest, found_of}
use Rattle.pb_fields.proofs.RowLemmas.{count_few}
use Rattle.pb_fields.proofs.EntryLaws.{agree}
use Rattle.pb_fields.proofs.RunLemmas.{of_fields}
use Rattle.pb_fields.proofs.TargetLemmas.{before-cut, after-cut, before-whole, after-whole, stem-cut, number-cut, block_plain, block_letters, field_plain, number_digits, number_plain, number_read, digit_read}

-- no two blocks have one name
named_block : ℕ → Option ℕ
named_block b = block_with (block_of b).name

blocks_named : map named_block (range_with_len 0 12) ≡ map (λ b. Some b) (range_with_len 0 12)
unfolding named_block catalogue
blocks_named = refl

pub block_with-name : (b : ℕ) → b < 12 → block_with (block_of b).name ≡ Some b
unfolding named_block
block_with-name b h =
    sym (get_or-map-range_with_len named_block 0 12 b b None h (omega arith))
    ∙ ap (λ l. get_or l b None) blocks_named
    ∙ get_or-map-range_with_len (λ n. Some n) 0 12 b b None h (omega arith)

-- no two fields of a block have one name
named_field : ℕ → ℕ → ℕ → Option (Option ℕ)
named_field b i f = Some (field_named b (field_of b f).name)

this_field : ℕ → ℕ → ℕ → Option (Option ℕ)
this_field b i f = Some (Some f)

fields_named : of_fields named_field ≡ of_fields this_field
unfolding named_field this_field catalogue
fields_named = refl

some_of : {X : Type 0} (x y : X) → Some x ≡ Some y → x ≡ y
some_of x y h = cc

pub field_named-name : (slot : Slot) → IsSlot slot → field_named slot.block (field_of slot.block slot.field).name ≡ Some slot.field
unfolding named_field this_field
field_named-name slot s = some_of _ _ (agree named_field this_field fields_named slot s)

-- no two attributes of a type have one name
abbrev pub named_attribute : FieldType → ℕ → Option ℕ
named_attribute t k =
    position (λ a. pointwise nat_eq (attribute_text a) (attribute_text (get_or (attributes_of t) k attributes.Info))) (attributes_of t)

attributes_named : (t : FieldType) → map (named_attribute t) (range_with_len 0 (length (attributes_of t))) ≡ map (λ k. Some k) (range_with_len 0 (length (attributes_of t)))
attributes_named (types.ParamUint limit) = refl
attributes_named types.ParamInt = refl
attributes_named types.ParamBit = refl
attributes_named (types.ParamEnum labels) = refl
attributes_named types.ParamLut = refl
attributes_named types.ReadUint = refl
attributes_named (types.ReadEnum labels) = refl
attributes_named types.WriteAction = refl
attributes_named (types.Time limit) = refl
attributes_named types.BitOut = refl
attributes_named types.PosOut = refl
attributes_named types.ExtOut = refl
attributes_named types.BitWord = refl
attributes_named types.BitMux = refl
attributes_named types.PosMux = refl
attributes_named types.Table = refl

pub attribute_place : (t : FieldType) (k : ℕ) → k < length (attributes_of t) → named_attribute t k ≡ Some k
attribute_place t k h =
    sym (get_or-map-range_with_len (named_attribute t) 0 (length (attributes_of t)) k k None h (omega arith))
    ∙ ap (λ l. get_or l k None) (attributes_named t)
    ∙ get_or-map-range_with_len (λ n. Some n) 0 (length (attributes_of t)) k k None h (omega arith)

attribute_read : (slot : Slot) → IsSlot slot → attribute_named slot.block slot.field (option_map attribute_text (attribute_at slot)) ≡ Some slot.attr
attribute_read slot s = read (eqb slot.attr 0) refl
  where
    read : (t : Bool) → eqb slot.attr 0 ≡ t → attribute_named slot.block slot.field (option_map attribute_text (cond t None (Some (get_or (attributes_at slot) (slot.attr - 1) attributes.Info)))) ≡ Some slot.attr
    read true e = ap (λ (n : ℕ). Some n) (sym (eqb-true slot.attr 0 e))
    read false e =
        let some : slot.attr - 1 < length (attributes_at slot) = omega (arith, eqb-false slot.attr 0 e, s.in_attributes) in
        ap (option_map (λ i. i + 1)) (attribute_place (type_of slot.block slot.field) (slot.attr - 1) some)
        ∙ ap (λ (n : ℕ). Some n) (omega (arith, eqb-false slot.attr 0 e))

-- the field and its attribute are cut apart
before-end : (name : List ℕ) (o : Option Attribute) → list_all (λ b. not (is_point b)) name ≡ true → before_point (name ++ attribute_end o) ≡ name
before-end name None h = ap before_point (append-nil name) ∙ before-whole name h
before-end name (Some a) h = before-cut name (attribute_text a) h

after-end : (name : List ℕ) (o : Option Attribute) → list_all (λ b. not (is_point b)) name ≡ true → after_point (name ++ attribute_end o) ≡ option_map attribute_text o
after-end name None h = ap after_point (append-nil name) ∙ after-whole name h
after-end name (Some a) h = after-cut name (attribute_text a) h

-- the block and its number are cut apart and read
pub block_named-text : (b : ℕ) (number : List ℕ) → b < 12 → list_all is_ascii_digit number ≡ true → block_named ((block_of b).name ++ number) ≡ Some b
block_named-text b number h digits =
    let name : List ℕ = (block_of b).name in
    ap (λ n. cond {A = Option ℕ} (list_all is_ascii_digit n) (block_with (stem_of (name ++ number))) None) (number-cut name number (block_letters b) digits)
    ∙ ap (λ t. cond {A = Option ℕ} t (block_with (stem_of (name ++ number))) None) digits
    ∙ ap block_with (stem-cut name number (block_letters b) digits)
    ∙ block_with-name b h

instance_read : (slot : Slot) → IsSlot slot → instance_numbered (count_of slot.block) (number_of (instance_text slot.block slot.instance)) ≡ Some slot.instance
instance_read slot s =
    let few : slot.instance ≤ 8 = omega (arith, s.in_count, count_few slot.block) in
    ap (instance_numbered (count_of slot.block)) (number-cut (block_of slot.block).name (number_text slot.block slot.instance) (block_letters slot.block) (number_digits slot.block slot.instance few))
    ∙ number_read slot.block slot.instance s.from_one s.in_count

instance_plain : (b i : ℕ) → list_all (λ c. not (is_point c)) (instance_text b i) ≡ true
instance_plain b i =
    list_all-append (λ c. not (is_point c)) (block_of b).name (number_text b i)
    ∙ rw (block_plain b, number_plain b i) refl

-- the slot of a field's name with its attribute
slot_named-text : (slot : Slot) → IsSlot slot → slot_named slot.block slot.instance ((field_of slot.block slot.field).name ++ attribute_end (attribute_at slot)) ≡ Ok slot
slot_named-text slot s =
    let name : List ℕ = (field_of slot.block slot.field).name in
    let text : List ℕ = name ++ attribute_end (attribute_at slot) in
    let plain = field_plain slot.block slot.field in
    let fields : field_named slot.block (before_point text) ≡ Some slot.field =
    ap (field_named slot.block) (before-end name (attribute_at slot) plain) ∙ field_named-name slot s in
    let attrs : attribute_named slot.block slot.field (after_point text) ≡ Some slot.attr =
    ap (attribute_named slot.block slot.field) (after-end name (attribute_at slot) plain) ∙ attribute_read slot s in
    ap (λ o. or_refused o refusals.NoSuchField (λ f. or_refused (attribute_named slot.block f (after_point text)) refusals.NoSuchAttribute (λ a. Ok (record { block = slot.block; instance = slot.instance; field = f; attr = a })))) fields
    ∙ ap (λ o. or_refused o refusals.NoSuchAttribute (λ a. Ok (record { block = slot.block; instance = slot.instance; field = slot.field; attr = a }))) attrs

-- the same with the name of the block before it, where the name is known to be read
pub found_of-text : (slot : Slot) (name : List ℕ) → IsSlot slot → list_all (λ c. not (is_point c)) name ≡ true → block_named name ≡ Some slot.block → instance_numbered (count_of slot.block) (number_of name) ≡ Some slot.instance → found_of (name ++ 46 ∷ ((field_of slot.block slot.field).name ++ attribute_end (attribute_at slot))) ≡ Ok slot
found_of-text slot name s plain named numbered =
    let rest : List ℕ = (field_of slot.block slot.field).name ++ attribute_end (attribute_at slot) in
    let text : List ℕ = name ++ 46 ∷ rest in
    ap (λ n. or_refused (block_named n) refusals.NoSuchBlock (λ b. or_refused (instance_numbered (count_of b) (number_of n)) refusals.BlockNumberOutOfRange (λ i. slot_of_rest b i (after_point text)))) (before-cut name rest plain)
    ∙ ap (λ o. or_refused o refusals.NoSuchBlock (λ b. or_refused (instance_numbered (count_of b) (number_of name)) refusals.BlockNumberOutOfRange (λ i. slot_of_rest b i (after_point text)))) named
    ∙ ap (λ o. or_refused o refusals.BlockNumberOutOfRange (λ i. slot_of_rest slot.block i (after_point text))) numbered
    ∙ ap (slot_of_rest slot.block slot.instance) (after-cut name rest plain)
    ∙ slot_named-text slot s

pub found_of-target : (slot : Slot) → IsSlot slot → found_of (target_of slot) ≡ Ok slot
found_of-target slot s =
    let few : slot.instance ≤ 8 = omega (arith, s.in_count, count_few slot.block) in
    ap found_of (append_assoc (instance_text slot.block slot.instance) (46 ∷ (field_of slot.block slot.field).name) (attribute_end (attribute_at slot)))
    ∙ found_of-text slot (instance_text slot.block slot.instance) s (instance_plain slot.block slot.instance) (block_named-text slot.block (number_text slot.block slot.instance) s.in_blocks (number_digits slot.block slot.instance few)) (instance_read slot s)

-- with the number 1 a block with one instance is found too
pub found_of-name : (text : List ℕ) (slot : Slot) → IsSlot slot → IsNameOf text slot → found_of text ≡ Ok slot
found_of-name text slot s (inl h) = ap found_of h ∙ found_of-target slot s
found_of-name text slot s (inr (one, h)) =
    let name : List ℕ = (block_of slot.block).name in
    let first : 1 ≡ slot.instance = omega (arith, s.in_count, s.from_one) in
    let plain : list_all (λ c. not (is_point c)) (name ++ 49 ∷ []) ≡ true =
    list_all-append (λ c. not (is_point c)) name (49 ∷ []) ∙ rw (block_plain slot.block) refl in
    let numbered : instance_numbered (count_of slot.block) (number_of (name ++ 49 ∷ [])) ≡ Some slot.instance =
    ap (instance_numbered (count_of slot.block)) (number-cut name (49 ∷ []) (block_letters slot.block) refl)
    ∙ digit_read (count_of slot.block) 1 (omega arith) (omega arith)
    ∙ ap (λ (n : ℕ). Some n) first in
    ap found_of (h ∙ append_assoc (name ++ 49 ∷ []) (46 ∷ (field_of slot.block slot.field).name) (attribute_end (attribute_at slot)))
    ∙ found_of-text slot (name ++ 49 ∷ []) s plain (block_named-text slot.block (49 ∷ []) s.in_blocks refl) numbered
