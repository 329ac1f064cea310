-- All values of the settings are in their ranges: at first, and after one was assigned.
use Rattle.std.proofs.Common.{◌≡◌, ℕ, ◌+◌, ◌-◌, ◌*◌, ◌/◌, ◌%◌, ◌<◌, ◌≤◌, ◌++◌, ◌==◌, ◌||◌, Bool, true, false, not, List, [], ◌∷◌, length, map, set, get_or, slice_set, refl, sym, ap, inl, inr, subst, ◌∙◌, arith, leb, ltb}
use Rattle.std.specs.List.{range_with_len}
use Rattle.std.proofs.lemmas.Bool.{leb-true, ltb-true, eqb-true, ne_eqb, cases_eq}
use Rattle.std.proofs.lemmas.List.{length-set, get_or-set_same, get_or-set_other}
use Rattle.std.proofs.lemmas.List.FromFn.{length-map-range_with_len, get_or-map-range_with_len, map-range_with_len_more}
use Rattle.pb_names.specs.declared.bit_bus.TheConstants as bit_bus
use Rattle.pb_names.specs.declared.position_bus.TheConstants as position_bus
use Rattle.pb_fields.specs.declared.Slot.{Slot}
use Rattle.pb_fields.specs.declared.FieldKind.{FieldKind}
use Rattle.pb_fields.specs.declared.FieldKind.TheVariants as kinds
use Rattle.pb_fields.specs.Labels.{label_list}
use Rattle.pb_fields.specs.Places.{type_of}
use Rattle.pb_fields.specs.Catalogue.{catalogue}
use Rattle.pb_fields.specs.Order.{slot_at}
use Rattle.pb_fields.specs.Slots.{IsSlot, kind_of, kind_by, default_of}
use Rattle.pb_fields.specs.Values.{IsRaw}
use Rattle.pb_config.proofs.TextLemmas.{attribute_by, all_of, at_each, where_so}
use Rattle.pb_config.specs.Settings.{place, instance_place, raw_of, text_of}
use Rattle.pb_config.specs.Defaults.{default_text, default_at, text_of_block, first_raws, first_texts, fresh}
use Rattle.pb_config.specs.Kept.{IsKept, CanBe, is_kept_by, is_kept}
use Rattle.pb_config.proofs.PlaceLemmas.{few, place_within, one_place, place_attr, place_rest, place_field, place_block}

-- after an assignment

raw_after : (raws : List ℕ) (s t : Slot) (raw : ℕ) → IsSlot s → IsSlot t → place s < length raws → CanBe s raw → CanBe t (get_or raws (place t) 0) → CanBe t (get_or (set raws (place s) raw) (place t) 0)
raw_after raws s t raw is it lt h k =
    elim (cases_eq (place t) (place s)) [
      | inl e ↦
          let same : s ≡ t = one_place s t is it (sym e) in
          let value : get_or (set raws (place s) raw) (place t) 0 ≡ raw = ap (λ p. get_or (set raws (place s) raw) p 0) e ∙ get_or-set_same raws (place s) raw 0 lt in
          subst (λ v. CanBe t v) (sym value) (subst (λ x. CanBe x raw) same h)
      | inr n ↦
          subst (λ v. CanBe t v) (sym (get_or-set_other raws (place s) (place t) raw 0 n)) k
    ]

pub kept_after : (raws : List ℕ) (texts : List (List ℕ)) (slot : Slot) (raw : ℕ) → IsKept (record { raws = raws; texts = texts }) → IsSlot slot → place slot < 14112 → CanBe slot raw → IsKept (record { raws = slice_set raws (place slot) raw; texts = texts })
kept_after raws texts slot raw k is lt h =
    let size : length raws ≡ 14112 = k.raws in
    record {
      raws = length-set raws (place slot) raw ∙ size;
      texts = k.texts;
      ranges = λ other io. raw_after raws slot other raw is io (omega arith) h (k.ranges other io);
    }

-- at first

pub no_raws : [] ≡ first_raws 0
unfolding first_raws
no_raws = refl

pub more_raws : (n : ℕ) (raws : List ℕ) (raw : ℕ) → raws ≡ first_raws n → raw ≡ default_at n → raws ++ raw ∷ [] ≡ first_raws (n + 1)
unfolding first_raws
more_raws n raws raw e f = ap (λ l. l ++ raw ∷ []) e ∙ ap (λ x. map default_at (range_with_len 0 n) ++ x ∷ []) f ∙ sym (map-range_with_len_more default_at 0 n n (omega arith))

pub no_texts : [] ≡ first_texts 0
unfolding first_texts
no_texts = refl

pub more_texts : (n : ℕ) (texts : List (List ℕ)) (text : List ℕ) → texts ≡ first_texts n → text ≡ text_of_block (n / 8) → texts ++ text ∷ [] ≡ first_texts (n + 1)
unfolding first_texts
more_texts n texts text e f = ap (λ l. l ++ text ∷ []) e ∙ ap (λ x. map (λ i. text_of_block (i / 8)) (range_with_len 0 n) ++ x ∷ []) f ∙ sym (map-range_with_len_more (λ i. text_of_block (i / 8)) 0 n n (omega arith))

pub raws_length : (n : ℕ) → length (first_raws n) ≡ n
unfolding first_raws
raws_length n = length-map-range_with_len default_at 0 n

pub texts_length : (n : ℕ) → length (first_texts n) ≡ n
unfolding first_texts
texts_length n = length-map-range_with_len (λ i. text_of_block (i / 8)) 0 n

raws_at : (n i : ℕ) → i < n → get_or (first_raws n) i 0 ≡ default_at i
unfolding first_raws
raws_at n i lt = get_or-map-range_with_len default_at 0 n i i 0 lt (omega arith)

-- whether a default is in the range of its kind

fits : FieldKind → ℕ → Bool
fits (kinds.Uint limit) raw = leb raw limit
fits kinds.Int raw = raw == 0
fits kinds.Bit raw = leb raw 1
fits (kinds.Enum labels) raw = ltb raw (length (label_list labels))
fits kinds.BitMux raw = raw == bit_bus.ZERO || raw == bit_bus.ONE
fits kinds.PosMux raw = raw == position_bus.ZERO
fits kinds.Decimal raw = raw == 0 || raw == 1000000000
fits (kinds.Time limit units) raw = leb raw limit
fits kinds.Lut raw = raw == 0
fits kinds.Action raw = raw == 0
fits kinds.Text raw = false

one_of : (raw a b : ℕ) (P : ℕ → Type 0) → (raw == a || raw == b) ≡ true → P a → P b → P raw
one_of raw a b P e pa pb =
    elim (cases_eq raw a) [
      | inl h ↦ subst P (sym h) pa
      | inr n ↦ subst P (sym (eqb-true raw b (subst (λ v. (v || raw == b) ≡ true) (ne_eqb raw a n) e))) pb
    ]

the_one : (raw a : ℕ) (P : ℕ → Type 0) → (raw == a) ≡ true → P a → P raw
the_one raw a P e pa = subst P (sym (eqb-true raw a e)) pa

bit_zero_in : IsRaw kinds.BitMux bit_bus.ZERO
bit_zero_in = refl

bit_one_in : IsRaw kinds.BitMux bit_bus.ONE
bit_one_in = refl

position_zero_in : IsRaw kinds.PosMux position_bus.ZERO
position_zero_in = refl

int_zero_in : IsRaw kinds.Int 0
int_zero_in = (omega arith, omega arith)

decimal_zero_in : IsRaw kinds.Decimal 0
decimal_zero_in = (omega arith, omega arith)

decimal_one_in : IsRaw kinds.Decimal 1000000000
decimal_one_in = (omega arith, omega arith)

fits_in : (kind : FieldKind) (raw : ℕ) → fits kind raw ≡ true → IsRaw kind raw
unfolding fits
fits_in (kinds.Uint limit) raw e = leb-true raw limit e
fits_in kinds.Int raw e = the_one raw 0 (λ v. IsRaw kinds.Int v) e int_zero_in
fits_in kinds.Bit raw e = leb-true raw 1 e
fits_in (kinds.Enum labels) raw e = ltb-true raw _ e
fits_in kinds.BitMux raw e = one_of raw bit_bus.ZERO bit_bus.ONE (λ v. IsRaw kinds.BitMux v) e bit_zero_in bit_one_in
fits_in kinds.PosMux raw e = the_one raw position_bus.ZERO (λ v. IsRaw kinds.PosMux v) e position_zero_in
fits_in kinds.Decimal raw e = one_of raw 0 1000000000 (λ v. IsRaw kinds.Decimal v) e decimal_zero_in decimal_one_in
fits_in (kinds.Time limit units) raw e = leb-true raw limit e
fits_in kinds.Lut raw e = the_one raw 0 (λ v. IsRaw kinds.Lut v) e (omega arith)
fits_in kinds.Action raw e = eqb-true raw 0 e
fits_in kinds.Text raw e = absurd (cc)

-- each default is in its range, tried at all places of a block's instance

fits_at : ℕ → ℕ → ℕ → Bool
fits_at b f a =
    not (is_kept_by (type_of b f) (attribute_by (type_of b f) a)) || fits (kind_by (type_of b f) (attribute_by (type_of b f) a)) (default_of (slot_at b 1 f a))

all_fit : all_of fits_at ≡ true
unfolding fits_at fits catalogue label_list
all_fit = refl

default_can_be : (slot : Slot) → IsSlot slot → CanBe slot (default_of slot)
unfolding fits_at
default_can_be slot is kept =
    fits_in (kind_of slot) (default_of slot) (where_so (is_kept slot) _ (at_each fits_at all_fit slot is) kept)

default_by_place : (slot : Slot) → IsSlot slot → default_at (place slot) ≡ default_of slot
default_by_place slot is =
    let f = few slot is in
    let i : slot.instance ≤ 8 = f.instance in
    let from : 1 ≤ slot.instance = f.from_one in
    let b : place slot / 1176 ≡ slot.block = place_block slot.block (slot.instance - 1) slot.field slot.attr (omega arith) f.field f.attr in
    let a : place slot % 7 ≡ slot.attr = place_attr (instance_place slot * 21 + slot.field) slot.attr f.attr in
    let r : place slot / 7 ≡ instance_place slot * 21 + slot.field = place_rest (instance_place slot * 21 + slot.field) slot.attr f.attr in
    let m : place slot / 7 % 21 ≡ slot.field = ap (λ x. x % 21) r ∙ place_field (instance_place slot) slot.field f.field in
    ap (λ x. default_of (slot_at x 1 (place slot / 7 % 21) (place slot % 7))) b
    ∙ ap (λ x. default_of (slot_at slot.block 1 x (place slot % 7))) m
    ∙ ap (λ x. default_of (slot_at slot.block 1 slot.field x)) a

pub fresh_value : (slot : Slot) → IsSlot slot → raw_of fresh slot ≡ default_of slot
fresh_value slot is = raws_at 14112 (place slot) (place_within slot is) ∙ default_by_place slot is

texts_at : (n i : ℕ) → i < n → get_or (first_texts n) i [] ≡ text_of_block (i / 8)
unfolding first_texts
texts_at n i lt = get_or-map-range_with_len (λ i. text_of_block (i / 8)) 0 n i i [] lt (omega arith)

instance_block : (b i : ℕ) → i < 8 → (b * 8 + i) / 8 ≡ b
instance_block b i h = omega arith

pub fresh_text : (slot : Slot) → IsSlot slot → text_of fresh slot ≡ default_text slot
fresh_text slot is =
    let f = few slot is in
    let b : slot.block < 12 = f.block in
    let i : slot.instance ≤ 8 = f.instance in
    let from : 1 ≤ slot.instance = f.from_one in
    texts_at 96 (instance_place slot) (omega arith)
    ∙ ap text_of_block (instance_block slot.block (slot.instance - 1) (omega arith))

fresh_can_be : (slot : Slot) → IsSlot slot → place slot < 14112 → CanBe slot (raw_of fresh slot)
fresh_can_be slot is lt =
    subst (λ v. CanBe slot v) (sym (raws_at 14112 (place slot) lt ∙ default_by_place slot is)) (default_can_be slot is)

pub fresh_kept : IsKept fresh
fresh_kept = record {
  raws = raws_length 14112;
  texts = texts_length 96;
  ranges = λ slot is. fresh_can_be slot is (place_within slot is);
}
