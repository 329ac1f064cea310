-- The read fields by their places, and their values.
use Rattle.std.proofs.Common.{◌≡◌, ◌≢◌, ℕ, ◌+◌, ◌<◌, ◌^◌, ◌==◌, not, Bool, true, false, eqb, List, length, map, get_or, set, bytes_eq, refl, ap, sym, subst, ◌∙◌, arith}
use Rattle.std.specs.List.{range_with_len}
use Rattle.std.proofs.lemmas.Bool.{eqb-true, eqb-false}
use Rattle.std.proofs.lemmas.Bool.Decides.{Decides-eqb}
use Rattle.std.proofs.lemmas.Slice.Eq.{bytes_eq-Decides}
use Rattle.std.proofs.lemmas.List.{get_or-set_same, get_or-set_other}
use Rattle.pb_fields.specs.declared.Slot.{Slot}
use Rattle.pb_fields.specs.declared.FieldKind.{FieldKind}
use Rattle.pb_fields.specs.declared.FieldKind.TheVariants as kinds
use Rattle.pb_fields.specs.Catalogue.{catalogue}
use Rattle.pb_fields.specs.Order.{slots, slot_at}
use Rattle.pb_fields.specs.Slots.{IsSlot, kind_of}
use Rattle.pb_fields.specs.Values.{IsRaw, IsShownKind, shown}
use Rattle.pb_fields.proofs.ValueLaws.{spelled_once, printed_is_spelled}
use Rattle.pb_changes.specs.declared.groups.Group.TheVariants as groups
use Rattle.pb_changes.specs.declared.reads.TheConstants.{FIELDS}
use Rattle.pb_changes.specs.Groups.{is_in, slots_in}
use Rattle.pb_changes.specs.Kept.{read_at, IsShownAs}
use Rattle.pb_changes.proofs.PastLemmas.{same_tests}
use Rattle.pb_changes.proofs.SlotLemmas.{is_slot, slot_from, at_place}

-- the slot of a row of the table in the source
abbrev pub row_slot : ℕ → Slot
row_slot place =
    slot_at (get_or FIELDS place (0, 0, 0)).0 (get_or FIELDS place (0, 0, 0)).1 (get_or FIELDS place (0, 0, 0)).2 0

rows_agree : map row_slot (range_with_len 0 24) ≡ map read_at (range_with_len 0 24)
unfolding slots_in slots catalogue
rows_agree = refl

no_slot : Slot
no_slot = slot_at 0 0 0 0

pub row_is : (place : ℕ) → place < 24 → row_slot place ≡ read_at place
row_is = at_place row_slot read_at no_slot rows_agree

true_at : ℕ → Bool
true_at place = true

all_in : map (λ place. is_slot (row_slot place)) (range_with_len 0 24) ≡ map true_at (range_with_len 0 24)
unfolding true_at catalogue
all_in = refl

pub row_in : (place : ℕ) → place < 24 → IsSlot (row_slot place)
unfolding true_at
row_in place h = slot_from (row_slot place) (at_place (λ k. is_slot (row_slot k)) true_at false all_in place h)

all_read : map (λ place. is_in groups.Read (row_slot place)) (range_with_len 0 24) ≡ map true_at (range_with_len 0 24)
unfolding true_at catalogue
all_read = refl

pub row_read : (place : ℕ) → place < 24 → is_in groups.Read (row_slot place) ≡ true
unfolding true_at
row_read = at_place (λ k. is_in groups.Read (row_slot k)) true_at false all_read

-- the value of the kind is a number or a label
is_plain : FieldKind → Bool
is_plain (kinds.Uint limit) = true
is_plain (kinds.Enum labels) = true
is_plain kind = false

plain_shown : (kind : FieldKind) → is_plain kind ≡ true → IsShownKind kind
unfolding is_plain
plain_shown (kinds.Uint limit) h = tt
plain_shown (kinds.Enum labels) h = tt
plain_shown kinds.Int h = tt
plain_shown kinds.Bit h = tt
plain_shown kinds.BitMux h = tt
plain_shown kinds.PosMux h = tt
plain_shown kinds.Decimal h = tt
plain_shown (kinds.Time limit units) h = cc
plain_shown kinds.Lut h = tt
plain_shown kinds.Action h = cc
plain_shown kinds.Text h = cc

all_plain : map (λ place. is_plain (kind_of (row_slot place))) (range_with_len 0 24) ≡ map true_at (range_with_len 0 24)
unfolding true_at is_plain catalogue
all_plain = refl

pub row_shown : (place : ℕ) → place < 24 → IsShownKind (kind_of (row_slot place))
unfolding true_at
row_shown place h = plain_shown (kind_of (row_slot place)) (at_place (λ k. is_plain (kind_of (row_slot k))) true_at false all_plain place h)

-- one value more
pub values_more : (shows : Slot → List ℕ) (values : List ℕ) (place raw : ℕ) → place < 24 → length values ≡ 24 → raw < 2 ^ 64 → IsRaw (kind_of (read_at place)) raw → shown (kind_of (read_at place)) raw ≡ shows (read_at place) → ((k : ℕ) → k < place → IsShownAs shows values k) → (k : ℕ) → k < place + 1 → IsShownAs shows (set values place raw) k
values_more shows values place raw h len small range text before k below = by (eqb k place) refl
  where
    by : (b : Bool) → eqb k place ≡ b → IsShownAs shows (set values place raw) k
    by true e =
        let here : k ≡ place = eqb-true k place e in
        let within : place < length values = omega arith in
        let this : get_or (set values place raw) place 0 ≡ raw = get_or-set_same values place raw 0 within in
        let P : ℕ → Type 0 = λ i. IsShownAs shows (set values place raw) i in
        subst P (sym here)
        (record {
          small = rw this small;
          range = rw this range;
          text = rw this text;
        })
    by false e =
        let other : k ≢ place = eqb-false k place e in
        let that : get_or (set values place raw) k 0 ≡ get_or values k 0 = get_or-set_other values place k raw 0 other in
        let had = before k (omega (arith, other)) in
        record {
          small = rw that had.small;
          range = rw that had.range;
          text = rw that had.text;
        }

-- two raw values are the same exactly where the same is shown of them
pub same_values : (before now : Slot → List ℕ) (olds values : List ℕ) (place : ℕ) → place < 24 → IsShownAs before olds place → IsShownAs now values place → not (get_or olds place 0 == get_or values place 0) ≡ not (bytes_eq (before (read_at place)) (now (read_at place)))
same_values before now olds values place h old new =
    ap not
    (same_tests (eqb (get_or olds place 0) (get_or values place 0)) (bytes_eq (before (read_at place)) (now (read_at place)))
    (λ e. (bytes_eq-Decides (before (read_at place)) (now (read_at place))).1
    (sym old.text ∙ (ap (shown (kind_of (read_at place))) (eqb-true (get_or olds place 0) (get_or values place 0) e) ∙ new.text)))
    (λ e. (Decides-eqb (get_or olds place 0) (get_or values place 0)).1 (once ((bytes_eq-Decides (before (read_at place)) (now (read_at place))).0 e))))
  where
    is_shown : IsShownKind (kind_of (read_at place))
    is_shown = let P : Slot → Type 0 = λ s. IsShownKind (kind_of s) in subst P (row_is place h) (row_shown place h)

    once : before (read_at place) ≡ now (read_at place) → get_or olds place 0 ≡ get_or values place 0
    once e =
        let kind = kind_of (read_at place) in
        let first = printed_is_spelled kind (get_or olds place 0) is_shown old.range old.small in
        let second = printed_is_spelled kind (get_or values place 0) is_shown new.range new.small in
        spelled_once kind (shown kind (get_or values place 0)) (get_or olds place 0) (get_or values place 0)
        (rw (old.text ∙ (e ∙ sym new.text)) at first) second
