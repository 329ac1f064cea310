-- What an assignment leaves, and what is true of all settings that assignments reach.
use Rattle.std.proofs.Common.{◌≡◌, ◌≢◌, ℕ, ◌-◌, ◌<◌, ◌≤◌, ◌==◌, ◌&&◌, ◌||◌, ◌⊎◌, Bool, true, false, not, List, [], length, codes, Option, Some, None, Result, Ok, Err, is_some, slice_index_or, refl, sym, ap, inl, inr, subst, ◌∙◌, arith}
use Rattle.std.proofs.lemmas.Bool.{eqb-true, cases_eq}
use Rattle.std.proofs.lemmas.List.{length-set, get_or-set_same, get_or-set_other}
use Rattle.pb_words.specs.declared.Refusal.{Refusal}
use Rattle.pb_lut.specs.Functions.{WritesFunction}
use Rattle.pb_words.specs.Cuts.{without_spaces}
use Rattle.pb_lut.specs.Computed.{expression_of, tree_at, function_of}
use Rattle.pb_lut.proofs.ComputedLemmas.{function_written}
use Rattle.pb_names.specs.declared.lut.TheConstants as lut
use Rattle.pb_fields.specs.declared.Slot.{Slot}
use Rattle.pb_fields.specs.declared.FieldType.{FieldType}
use Rattle.pb_fields.specs.declared.FieldType.TheVariants as types
use Rattle.pb_fields.specs.declared.Attribute.{Attribute}
use Rattle.pb_fields.specs.declared.Attribute.TheVariants as attributes
use Rattle.pb_fields.specs.Types.{attributes_of}
use Rattle.pb_fields.specs.Places.{type_of}
use Rattle.pb_fields.specs.Catalogue.{catalogue}
use Rattle.pb_fields.specs.Slots.{IsSlot, type_at, attribute_at, default_of}
use Rattle.pb_fields.specs.Order.{slot_at}
use Rattle.pb_fields.specs.Spelled.{spelled, read_as}
use Rattle.pb_fields.proofs.RowLemmas.{and_left, and_right, all_within}
use Rattle.pb_config.specs.Settings.{Settings, place, instance_place, units_slot, raw_of, text_of, place_count, instance_count, kind_in}
use Rattle.pb_config.specs.Defaults.{fresh, text_of_block}
use Rattle.pb_config.specs.Assigning.{raw_given, is_units, target_by, target, kept_by, keeps_text, with_text, assigned, after_by, after_assignment}
use Rattle.pb_config.specs.Reached.{IsReached, at_first, by_assignment}
use Rattle.pb_config.proofs.PlaceLemmas.{place_within, few, one_place}
use Rattle.pb_config.proofs.KindLemmas.{which, unlike, no_ticks, given_by, given_of}
use Rattle.pb_config.proofs.KeptLemmas.{fresh_value, fresh_text, raws_length, texts_length}
use Rattle.pb_config.proofs.TextLemmas.{attribute_by, all_of, at_each, where_so, one_text, kept_either, bare_function}

-- the slot whose raw value is assigned is a slot
target_is : (slot : Slot) (o : Option Attribute) → IsSlot slot → IsSlot (target_by o slot)
target_is slot (Some attributes.TimeRaw) s =
    record { in_blocks = s.in_blocks; from_one = s.from_one; in_count = s.in_count; in_fields = s.in_fields; in_attributes = omega arith }
target_is slot o s = s

-- what stays

raw_stays : (settings : Settings) (slot other : Slot) (text : List ℕ) (r : Result ℕ Refusal) → IsSlot slot → IsSlot other → other ≢ target slot → raw_of (after_by settings slot text r) other ≡ raw_of settings other
raw_stays settings slot other text (Ok raw) s t n =
    get_or-set_other settings.raws (place (target slot)) (place other) raw 0
    (λ e. n (one_place other (target slot) t (target_is slot (attribute_at slot) s) e))
raw_stays settings slot other text (Err refusal) s t n = refl

pub others_stay : (settings : Settings) (slot other : Slot) (text : List ℕ) → IsSlot slot → IsSlot other → other ≢ target slot → raw_of (after_assignment settings slot text) other ≡ raw_of settings other
others_stay settings slot other text s t n = raw_stays settings slot other text (raw_given settings slot text) s t n

text_kept : (texts : List (List ℕ)) (i j : ℕ) (kept : Option (List ℕ)) → (kept ≡ None) ⊎ (j ≢ i) → slice_index_or (with_text texts i kept) j [] ≡ slice_index_or texts j []
text_kept texts i j None h = refl
text_kept texts i j (Some text) (inl e) = absurd (cc)
text_kept texts i j (Some text) (inr n) = get_or-set_other texts i j text [] n

none_or_other : (slot other : Slot) (text : List ℕ) → IsSlot slot → IsSlot other → keeps_text other ≡ true → other ≢ slot → (kept_by (type_at slot) (attribute_at slot) text ≡ None) ⊎ (instance_place other ≢ instance_place slot)
none_or_other slot other text s t k n =
    elim (kept_either (type_at slot) (attribute_at slot) text) [
      | inl e ↦ inl e
      | inr h ↦ inr (λ e. n (one_text other slot t s k h e))
    ]

text_stays : (settings : Settings) (slot other : Slot) (text : List ℕ) (r : Result ℕ Refusal) → IsSlot slot → IsSlot other → keeps_text other ≡ true → other ≢ slot → text_of (after_by settings slot text r) other ≡ text_of settings other
text_stays settings slot other text (Ok raw) s t k n =
    text_kept settings.texts (instance_place slot) (instance_place other) (kept_by (type_at slot) (attribute_at slot) text) (none_or_other slot other text s t k n)
text_stays settings slot other text (Err refusal) s t k n = refl

pub texts_stay : (settings : Settings) (slot other : Slot) (text : List ℕ) → IsSlot slot → IsSlot other → keeps_text other ≡ true → other ≢ slot → text_of (after_assignment settings slot text) other ≡ text_of settings other
texts_stay settings slot other text s t k n = text_stays settings slot other text (raw_given settings slot text) s t k n

-- how long the two lists are

record IsWhole (settings : Settings) : Type 0 where
  raws : length settings.raws ≡ place_count
  texts : length settings.texts ≡ instance_count

length-with_text : (texts : List (List ℕ)) (i : ℕ) (kept : Option (List ℕ)) → length (with_text texts i kept) ≡ length texts
length-with_text texts i None = refl
length-with_text texts i (Some text) = length-set texts i text

whole_after : (settings : Settings) (slot : Slot) (text : List ℕ) (r : Result ℕ Refusal) → IsWhole settings → IsWhole (after_by settings slot text r)
whole_after settings slot text (Ok raw) w = record {
  raws = length-set settings.raws (place (target slot)) raw ∙ w.raws;
  texts = length-with_text settings.texts (instance_place slot) (kept_by (type_at slot) (attribute_at slot) text) ∙ w.texts;
}
whole_after settings slot text (Err refusal) w = w

whole : (settings : Settings) → IsReached settings → IsWhole settings
whole settings at_first = record { raws = raws_length 14112; texts = texts_length 96 }
whole settings (by_assignment before slot text s r) = whole_after before slot text (raw_given before slot text) (whole before r)

-- what is assigned

within_all : (slot : Slot) → IsSlot slot → instance_place slot < 96
within_all slot s =
    let f = few slot s in
    let b : slot.block < 12 = f.block in
    let i : slot.instance ≤ 8 = f.instance in
    let l : 1 ≤ slot.instance = f.from_one in
    omega arith

raw_here : (settings : Settings) (slot : Slot) (text : List ℕ) (raw : ℕ) → IsWhole settings → IsSlot slot → raw_of (assigned settings slot text raw) (target slot) ≡ raw
raw_here settings slot text raw w s =
    let size : length settings.raws ≡ 14112 = w.raws in
    let within : place (target slot) < 14112 = place_within (target slot) (target_is slot (attribute_at slot) s) in
    let lt : place (target slot) < length settings.raws = subst (λ n. place (target slot) < n) (sym size) within in
    get_or-set_same settings.raws (place (target slot)) raw 0 lt

pub value_here : (settings : Settings) (slot : Slot) (text : List ℕ) (raw : ℕ) → IsReached settings → IsSlot slot → raw_given settings slot text ≡ Ok raw → raw_of (after_assignment settings slot text) (target slot) ≡ raw
value_here settings slot text raw r s e =
    ap (λ given. raw_of (after_by settings slot text given) (target slot)) e ∙ raw_here settings slot text raw (whole settings r) s

kept_here : (settings : Settings) (slot : Slot) (text kept : List ℕ) (raw : ℕ) → IsWhole settings → IsSlot slot → kept_by (type_at slot) (attribute_at slot) text ≡ Some kept → text_of (assigned settings slot text raw) slot ≡ kept
kept_here settings slot text kept raw w s e =
    let size : length settings.texts ≡ 96 = w.texts in
    let within : instance_place slot < 96 = within_all slot s in
    let lt : instance_place slot < length settings.texts = subst (λ n. instance_place slot < n) (sym size) within in
    ap (λ o. slice_index_or (with_text settings.texts (instance_place slot) o) (instance_place slot) []) e
    ∙ get_or-set_same settings.texts (instance_place slot) kept [] lt

pub text_here : (settings : Settings) (slot : Slot) (text kept : List ℕ) (raw : ℕ) → IsReached settings → IsSlot slot → raw_given settings slot text ≡ Ok raw → kept_by (type_at slot) (attribute_at slot) text ≡ Some kept → text_of (after_assignment settings slot text) slot ≡ kept
text_here settings slot text kept raw r s e k =
    ap (λ given. text_of (after_by settings slot text given) slot) e ∙ kept_here settings slot text kept raw (whole settings r) s k

-- functions

abbrev is_function_by : FieldType → Option Attribute → Bool
is_function_by types.ParamLut None = true
is_function_by t o = false

abbrev is_function : Slot → Bool
is_function slot = is_function_by (type_at slot) (attribute_at slot)

function_kept : (t : FieldType) (o : Option Attribute) → is_function_by t o ≡ true → is_some (kept_by t o []) ≡ true
function_kept types.ParamLut None e = refl
function_kept t o e = absurd (cc)

-- what is read as a function
read_number : (read : Option ℕ) (raw : ℕ) → read_as (λ n. Ok n) read ≡ Ok raw → read ≡ Some raw
read_number None raw e = absurd (cc)
read_number (Some n) raw e = cc

function_given : (u : ℕ) (t : FieldType) (o : Option Attribute) (text : List ℕ) (raw : ℕ) → is_function_by t o ≡ true → given_by (is_units o) (kind_in u t o) text ≡ Ok raw → (kept_by t o text ≡ Some (without_spaces text)) × (function_of text ≡ Some raw)
unfolding spelled
function_given u types.ParamLut None text raw f e = (refl, read_number (function_of text) raw e)
function_given u t o text raw f e = absurd (cc)

no_ticks_by : (slot : Slot) (t : FieldType) → type_at slot ≡ t → is_function_by t None ≡ true → IsSlot slot → attribute_at slot ≡ Some attributes.TimeRaw → ⊥
no_ticks_by slot types.ParamLut e f s a =
    let w = which slot attributes.TimeRaw s a in
    let P : FieldType → Type 0 = λ t. (slot.attr - 1 < length (attributes_of t)) × (slice_index_or (attributes_of t) (slot.attr - 1) attributes.Info ≡ attributes.TimeRaw) in
    let v = subst P e w in
    unlike no_ticks _ _ (all_within no_ticks (attributes_of types.ParamLut) attributes.Info (slot.attr - 1) refl v.0) v.1 refl
no_ticks_by slot t e f s a = absurd (cc)

-- a function is assigned to itself
own_by : (slot : Slot) (t : FieldType) (o : Option Attribute) → is_function_by t o ≡ true → target_by o slot ≡ slot
own_by slot types.ParamLut None f = refl
own_by slot t o f = absurd (cc)

own_target : (slot : Slot) (o : Option Attribute) → is_function_by (type_at slot) o ≡ true → target_by o slot ≡ slot
own_target slot o f = own_by slot (type_at slot) o f

-- the value of a function is set by its own assignment alone
not_the_target : (slot other : Slot) (o : Option Attribute) → attribute_at slot ≡ o → IsSlot slot → is_function other ≡ true → other ≢ slot → other ≢ target_by o slot
not_the_target slot other (Some attributes.TimeRaw) a s f n e =
    no_ticks_by slot (type_at slot) refl (subst (λ x. is_function x ≡ true) e f) s a
not_the_target slot other o a s f n e = n e

-- a function is kept as a text that writes it
IsWritten : Settings → Slot → Type 0
IsWritten settings slot = function_of (text_of settings slot) ≡ Some (raw_of settings slot)

written_here : (settings : Settings) (slot : Slot) (text : List ℕ) (raw : ℕ) → IsWhole settings → IsSlot slot → is_function slot ≡ true → raw_given settings slot text ≡ Ok raw → IsWritten (assigned settings slot text raw) slot
unfolding IsWritten
written_here settings slot text raw w s f e =
    let g = function_given (raw_of settings (units_slot slot)) (type_at slot) (attribute_at slot) text raw f (given_of settings slot text raw e) in
    let own : target slot ≡ slot = own_target slot (attribute_at slot) f in
    ap function_of (kept_here settings slot text (without_spaces text) raw w s g.0)
    ∙ (bare_function text raw g.1
    ∙ ap (λ n. Some n) (sym (ap (λ t. raw_of (assigned settings slot text raw) t) (sym own) ∙ raw_here settings slot text raw w s)))

written_after : (settings : Settings) (slot other : Slot) (text : List ℕ) (r : Result ℕ Refusal) → raw_given settings slot text ≡ r → IsWhole settings → IsSlot slot → IsSlot other → is_function other ≡ true → IsWritten settings other → IsWritten (after_by settings slot text r) other
unfolding IsWritten
written_after settings slot other text (Err refusal) e w s t f h = h
written_after settings slot other text (Ok raw) e w s t f h =
    elim (cases_eq (place other) (place slot)) [
      | inl p ↦
          let same : slot ≡ other = sym (one_place other slot t s p) in
          let P : Slot → Type 0 = λ x. is_function x ≡ true in
          let Q : Slot → Type 0 = λ x. function_of (text_of (assigned settings slot text raw) x) ≡ Some (raw_of (assigned settings slot text raw) x) in
          subst Q same (written_here settings slot text raw w s (subst P (sym same) f) e)
      | inr n ↦
          let no : other ≢ slot = λ p. n (ap place p) in
          ap function_of (text_stays settings slot other text (Ok raw) s t (function_kept (type_at other) (attribute_at other) f) no)
          ∙ (h
          ∙ ap (λ n. Some n) (sym (raw_stays settings slot other text (Ok raw) s t (not_the_target slot other (attribute_at slot) refl s f no))))
    ]

-- at first each function is `0`
first_at_zero : ℕ → ℕ → ℕ → Bool
first_at_zero b f a = not (is_function_by (type_of b f) (attribute_by (type_of b f) a)) || (b == lut.BLOCK && default_of (slot_at b 1 f a) == 0)

all_zero : all_of first_at_zero ≡ true
unfolding first_at_zero catalogue
all_zero = refl

zero_function : function_of (codes "0") ≡ Some 0
unfolding function_of expression_of tree_at
zero_function = refl

written_first : (slot : Slot) → IsSlot slot → is_function slot ≡ true → IsWritten fresh slot
unfolding IsWritten first_at_zero
written_first slot s f =
    let h = where_so (is_function slot) _ (at_each first_at_zero all_zero slot s) f in
    let block : slot.block ≡ lut.BLOCK = eqb-true _ _ (and_left _ _ h) in
    let value : default_of slot ≡ 0 = eqb-true _ _ (and_right _ _ h) in
    ap function_of (fresh_text slot s ∙ ap text_of_block block)
    ∙ (zero_function ∙ ap (λ n. Some n) (sym (fresh_value slot s ∙ value)))

written : (settings : Settings) → IsReached settings → (slot : Slot) → IsSlot slot → is_function slot ≡ true → IsWritten settings slot
written settings at_first slot s f = written_first slot s f
written settings (by_assignment before other text o r) slot s f =
    written_after before other slot text (raw_given before other text) refl (whole before r) o s f (written before r slot s f)

pub function_there : (settings : Settings) (slot : Slot) → IsReached settings → IsSlot slot → type_at slot ≡ types.ParamLut → attribute_at slot ≡ None → WritesFunction (text_of settings slot) (raw_of settings slot)
unfolding IsWritten
function_there settings slot r s t a =
    let f : is_function slot ≡ true = ap (λ x. is_function_by x (attribute_at slot)) t ∙ ap (λ o. is_function_by types.ParamLut o) a in
    function_written _ _ (written settings r slot s f)
