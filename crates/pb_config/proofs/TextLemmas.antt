-- Which slots keep a text: at most one of each instance. What is kept of a function writes its number.
use Rattle.std.proofs.Common.{◌≡◌, ℕ, ◌-◌, ◌<◌, ◌≤◌, ◌==◌, ◌&&◌, ◌||◌, ◌⊎◌, Bool, true, false, not, List, [], ◌∷◌, length, Option, Some, None, slice_index_or, is_some, nat_lt, if◌then◌else◌, refl, sym, ap, inl, inr, subst, ◌∙◌, arith}
use Rattle.std.specs.List.{list_all, range_with_len}
use Rattle.std.proofs.lemmas.Bool.{eqb-true, le-ltb, ltb-false}
use Rattle.std.proofs.lemmas.List.Sums.{length-filter, count_by-le-length}
use Rattle.std.proofs.lemmas.List.FromFn.{length-range_with_len, get_or-range_with_len}
use Rattle.pb_words.specs.Cuts.{without_spaces}
use Rattle.pb_lut.specs.Computed.{number_in, function_of}
use Rattle.pb_names.specs.declared.TheConstants.{ITSELF}
use Rattle.pb_names.specs.declared.lut.TheConstants as lut
use Rattle.pb_names.specs.declared.inenc.TheConstants as inenc
use Rattle.pb_names.specs.declared.counter.TheConstants as counter
use Rattle.pb_names.specs.declared.pos_out.TheConstants as pos_out
use Rattle.pb_fields.specs.declared.Slot.{Slot}
use Rattle.pb_fields.specs.declared.FieldType.{FieldType}
use Rattle.pb_fields.specs.declared.FieldType.TheVariants as types
use Rattle.pb_fields.specs.declared.Attribute.{Attribute}
use Rattle.pb_fields.specs.declared.Attribute.TheVariants as attributes
use Rattle.pb_fields.specs.Types.{attributes_of}
use Rattle.pb_fields.specs.Places.{type_of}
use Rattle.pb_fields.specs.Catalogue.{catalogue}
use Rattle.pb_fields.specs.Slots.{IsSlot}
use Rattle.pb_fields.proofs.RowLemmas.{and_left, and_right, all_within}
use Rattle.pb_config.specs.Settings.{instance_place}
use Rattle.pb_config.specs.Assigning.{kept_by, keeps_text}
use Rattle.pb_config.proofs.PlaceLemmas.{few, one_instance, same_slot}

-- a test of every place of a block's instance: 12 blocks, 21 fields, 7 attributes

abbrev pub attribute_by : FieldType → ℕ → Option Attribute
attribute_by t a = if a == 0 then None else Some (slice_index_or (attributes_of t) (a - 1) attributes.Info)

abbrev pub all_of_field : (ℕ → ℕ → ℕ → Bool) → ℕ → ℕ → Bool
all_of_field p b f = list_all (p b f) (range_with_len 0 7)

abbrev pub all_of_block : (ℕ → ℕ → ℕ → Bool) → ℕ → Bool
all_of_block p b = list_all (all_of_field p b) (range_with_len 0 21)

abbrev pub all_of : (ℕ → ℕ → ℕ → Bool) → Bool
all_of p = list_all (all_of_block p) (range_with_len 0 12)

at_number : (p : ℕ → Bool) (n i : ℕ) → list_all p (range_with_len 0 n) ≡ true → i < n → p i ≡ true
at_number p n i h lt =
    let size : length (range_with_len 0 n) ≡ n = length-range_with_len 0 n in
    let e : slice_index_or (range_with_len 0 n) i 0 ≡ i = get_or-range_with_len 0 n i 0 lt ∙ (omega arith) in
    subst (λ x. p x ≡ true) e (all_within p (range_with_len 0 n) 0 i h (omega arith))

pub at_each : (p : ℕ → ℕ → ℕ → Bool) → all_of p ≡ true → (slot : Slot) → IsSlot slot → p slot.block slot.field slot.attr ≡ true
at_each p h slot is =
    let f = few slot is in
    at_number (p slot.block slot.field) 7 slot.attr (at_number (all_of_field p slot.block) 21 slot.field (at_number (all_of_block p) 12 slot.block h f.block) f.field) f.attr

pub where_so : (x y : Bool) → (not x || y) ≡ true → x ≡ true → y ≡ true
where_so true y h e = h
where_so false y h e = absurd (cc)

-- the place of the text in each block that keeps one

text_field : ℕ → ℕ
text_field b = if b == lut.BLOCK then lut.FUNC else (if b == counter.BLOCK then counter.OUT else inenc.VAL)

text_attr : ℕ → ℕ
text_attr b = if b == lut.BLOCK then ITSELF else pos_out.UNITS

keeps_at : ℕ → ℕ → ℕ → Bool
keeps_at b f a = is_some (kept_by (type_of b f) (attribute_by (type_of b f) a) [])

one_at : ℕ → ℕ → ℕ → Bool
one_at b f a = not (keeps_at b f a) || (f == text_field b && a == text_attr b)

all_one : all_of one_at ≡ true
unfolding one_at keeps_at text_field text_attr catalogue
all_one = refl

text_there : (slot : Slot) → IsSlot slot → keeps_text slot ≡ true → (slot.field ≡ text_field slot.block) × (slot.attr ≡ text_attr slot.block)
unfolding one_at keeps_at
text_there slot is k =
    let h = where_so (keeps_text slot) _ (at_each one_at all_one slot is) k in
    (eqb-true _ _ (and_left _ _ h), eqb-true _ _ (and_right _ _ h))

-- no instance keeps two texts
pub one_text : (s t : Slot) → IsSlot s → IsSlot t → keeps_text s ≡ true → keeps_text t ≡ true → instance_place s ≡ instance_place t → s ≡ t
one_text s t is it k l e =
    let at = one_instance s t is it e in
    let x = text_there s is k in
    let y = text_there t it l in
    same_slot s t at.0 at.1 (x.0 ∙ (ap text_field at.0 ∙ sym y.0)) (x.1 ∙ (ap text_attr at.0 ∙ sym y.1))

-- a text is kept where one of the slot is
pub kept_either : (t : FieldType) (o : Option Attribute) (text : List ℕ) → (kept_by t o text ≡ None) ⊎ (is_some (kept_by t o []) ≡ true)
kept_either types.ParamLut None text = inr refl
kept_either t (Some attributes.Units) text = inr refl
kept_either t o text = inl refl

-- the text without its spaces is the same function

bare_by : (spaced : Bool) (b : ℕ) (text : List ℕ) → (b == 32) ≡ spaced → without_spaces (without_spaces text) ≡ without_spaces text → without_spaces (without_spaces (b ∷ text)) ≡ without_spaces (b ∷ text)
bare_by true b text e h = rw e h
bare_by false b text e h = rw e (rw e (ap (λ rest. b ∷ rest) h))

bare_twice : (text : List ℕ) → without_spaces (without_spaces text) ≡ without_spaces text
bare_twice [] = refl
bare_twice (b ∷ text) = bare_by (b == 32) b text refl (bare_twice text)

bare_short : (text : List ℕ) → length (without_spaces text) ≤ length text
bare_short text = omega (arith, length-filter (λ b. not (b == 32)) text, count_by-le-length (λ b. not (b == 32)) text)

number_given : (long : Bool) (read : Option ℕ) (raw : ℕ) → (if long then None else read) ≡ Some raw → (long ≡ false) × (read ≡ Some raw)
number_given true read raw e = absurd (cc)
number_given false read raw e = (refl, e)

pub bare_function : (text : List ℕ) (raw : ℕ) → function_of text ≡ Some raw → function_of (without_spaces text) ≡ Some raw
unfolding function_of
bare_function text raw e =
    let g = number_given (nat_lt 128 (length text)) (number_in (without_spaces text)) raw e in
    let most : length text ≤ 128 = ltb-false 128 (length text) g.0 in
    let less : length (without_spaces text) ≤ length text = bare_short text in
    let short : length (without_spaces text) ≤ 128 = omega arith in
    rw (le-ltb 128 (length (without_spaces text)) short) (ap number_in (bare_twice text) ∙ g.1)
