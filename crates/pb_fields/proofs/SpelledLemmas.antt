-- What is computed of a text is what the text spells, or why it spells nothing.
use Rattle.std.proofs.Common.{◌⊎◌, ◌≡◌, ◌≢◌, ℕ, ◌<◌, ◌≤◌, Bool, nat_eq, nat_le, List, [], length, get_or, slice_get, codes, ℤ, pos, negsuc, Option, Some, None, IsSome, Result, Ok, Err, ◌↔◌, MatchResult, IfOk, IfErr, refl, ap, sym, ◌∙◌, subst, inl, inr, arith}
use Rattle.std.specs.Int.{w64, cast_unsigned}
use Rattle.std.specs.Cmp.Lexicographic.{pointwise, bytes_decides}
use Rattle.std.proofs.lemmas.Bool.{cases_Bool, cases_eq, cond_both, leb-true, leb-false, both_ways}
use Rattle.std.proofs.lemmas.Bool.Decides.{not_from_Decides}
use Rattle.std.proofs.lemmas.Option.{same_Some, slice_get-get_or, slice_get_within, get_or_from_slice_get}
use Rattle.std.proofs.lemmas.List.Quantifiers.{position-Some}
use Rattle.std.proofs.lemmas.List.Sums.{fails_before_first}
use Rattle.pb_words.specs.declared.Refusal.{Refusal}
use Rattle.pb_words.specs.declared.Refusal.TheVariants as refusals
use Rattle.pb_words.specs.Numbers.{IsUint, value_of}
use Rattle.pb_words.specs.Signed.{WritesInt, int_value, int_of, is_uint, most}
use Rattle.pb_words.specs.Decimals.{Decimal, WritesDecimal, decimal_value, decimal_of}
use Rattle.pb_words.proofs.SignedLemmas.{fits_most, past_most}
use Rattle.pb_words.proofs.ComputedLemmas.{uint_decides, int_found, int_written, decimal_found, decimal_written}
use Rattle.pb_lut.specs.Computed.{function_of}
use Rattle.pb_lut.proofs.ComputedLemmas.{function_found, function_written}
use Rattle.pb_fields.specs.declared.kinds.FieldKind.{FieldKind}
use Rattle.pb_fields.specs.declared.kinds.FieldKind.TheVariants as kinds
use Rattle.pb_fields.specs.Labels.{label_list, bit_names, position_names, bit_mux_label, position_mux_label}
use Rattle.pb_fields.specs.Values.{Spells, Refuses, IsSpelledKind, HasTicks, IsNoTime, nearest_ticks}
use Rattle.pb_fields.specs.Spelled.{within, uint_spelled, int_spelled, known, place_in, or_else_in, decimal_spelled, ticks_spelled, time_spelled, read_as, spelled}
use Rattle.pb_fields.proofs.FindingLemmas.{position-None_is}
use Rattle.pb_fields.proofs.LabelLaws.{bit_entry, position_entry, there_is}
use Rattle.pb_fields.proofs.ValueRanges.{read_in_range}
use Rattle.pb_fields.proofs.ValueLaws.{spelled_once, not_both, only_value, refused_once}

-- the answer is a value that the text spells, or why it spells none
abbrev Answers : FieldKind → List ℕ → Result ℕ Refusal → Type 0
Answers kind text answer = MatchResult answer (Spells kind text) (Refuses kind text)

-- Numbers.

uint_answers : (limit : ℕ) (text : List ℕ) → Answers (kinds.Uint limit) text (uint_spelled limit text)
uint_answers limit text =
    cond_both (is_uint text) (within limit (value_of text)) (Err refusals.MalformedValue) (Answers (kinds.Uint limit) text)
    (λ t. let u : IsUint text = (uint_decides text).0 t in
    cond_both (nat_le (value_of text) limit) (Ok (value_of text)) (Err refusals.ValueOutOfRange) (Answers (kinds.Uint limit) text)
    (λ l. (record { grammar = u; value = refl }, leb-true (value_of text) limit l))
    (λ g. (u, leb-false (value_of text) limit g)))
    (λ f. not_from_Decides (is_uint text) (uint_decides text) f)

-- What was read, and nothing.

module _ {A : Type 0} (P : ℕ → Type 0) (Q : Refusal → Type 0) (make : A → Result ℕ Refusal) where
  read_answers : (o : Option A) → ((x : A) → o ≡ Some x → MatchResult (make x) P Q) → (o ≡ None → Q refusals.MalformedValue) → MatchResult (read_as make o) P Q
  read_answers None some none = none refl
  read_answers (Some x) some none = some x refl

nothing : {A : Type 0} {P : A → Type 0} (o : Option A) → ((x : A) → P x → o ≡ Some x) → o ≡ None → (x : A) → ¬ (P x)
nothing o found none x p = let some = found x p in cc

int_answers : (text : List ℕ) → Answers kinds.Int text (read_as int_spelled (int_of text))
int_answers text =
    read_answers (Spells kinds.Int text) (Refuses kinds.Int text) int_spelled (int_of text)
    (λ i e. let w : WritesInt text i = int_written text i e in
    cond_both (nat_le (value_of i.digits) (most i.sign)) (Ok (cast_unsigned w64 (int_value i))) (Err refusals.ValueOutOfRange) (Answers kinds.Int text)
    (λ l. (i, w, fits_most i.sign (value_of i.digits) (leb-true (value_of i.digits) (most i.sign) l), refl))
    (λ g. (i, w, past_most i.sign (value_of i.digits) (leb-false (value_of i.digits) (most i.sign) g))))
    (nothing (int_of text) (int_found text))

decimal_answers : (text : List ℕ) → Answers kinds.Decimal text (read_as decimal_spelled (decimal_of text))
decimal_answers text =
    read_answers (Spells kinds.Decimal text) (Refuses kinds.Decimal text) decimal_spelled (decimal_of text)
    (λ d e. let w : WritesDecimal text d = decimal_written text d e in
    cond_both (nat_le (length d.whole) 9) (Ok (cast_unsigned w64 (decimal_value d))) (Err refusals.ValueOutOfRange) (Answers kinds.Decimal text)
    (λ l. (d, w, leb-true (length d.whole) 9 l, refl))
    (λ g. (d, w, leb-false (length d.whole) 9 g)))
    (nothing (decimal_of text) (decimal_found text))

-- Times.

module _ (limit units : ℕ) (text : List ℕ) (d : Decimal) (w : WritesDecimal text d) (few : length d.whole ≤ 18) where
  ticks_answers : (v : ℤ) → decimal_value d ≡ v → Answers (kinds.Time limit units) text (ticks_spelled limit units v)
  ticks_answers (pos b) e =
      cond_both (nat_le (nearest_ticks units b) limit) (Ok (nearest_ticks units b)) (Err refusals.ValueOutOfRange) (Answers (kinds.Time limit units) text)
      (λ l. (d, w, few, subst (λ v. HasTicks units v (nearest_ticks units b)) (sym e) refl, leb-true (nearest_ticks units b) limit l))
      (λ g. (d, w, inr (subst (IsNoTime limit units) (sym e) (leb-false (nearest_ticks units b) limit g))))
  ticks_answers (negsuc n) e = (d, w, inr (subst (IsNoTime limit units) (sym e) tt))

time_answers : (limit units : ℕ) (text : List ℕ) → Answers (kinds.Time limit units) text (read_as (time_spelled limit units) (decimal_of text))
time_answers limit units text =
    read_answers (Spells (kinds.Time limit units) text) (Refuses (kinds.Time limit units) text) (time_spelled limit units) (decimal_of text)
    (λ d e. let w : WritesDecimal text d = decimal_written text d e in
    cond_both (nat_le (length d.whole) 18) (ticks_spelled limit units (decimal_value d)) (Err refusals.ValueOutOfRange) (Answers (kinds.Time limit units) text)
    (λ l. ticks_answers limit units text d w (leb-true (length d.whole) 18 l) (decimal_value d) refl)
    (λ g. (d, w, inl (leb-false (length d.whole) 18 g))))
    (nothing (decimal_of text) (decimal_found text))

function_answers : (text : List ℕ) → Answers kinds.Lut text (read_as (λ n. Ok n) (function_of text))
function_answers text =
    read_answers (Spells kinds.Lut text) (Refuses kinds.Lut text) (λ n. Ok n) (function_of text) (λ n e. function_written text n e) (nothing (function_of text) (function_found text))

-- Labels.

module _ (names : List (List ℕ)) (text : List ℕ) where
  abbrev is_text : List ℕ → Bool
  is_text label = pointwise nat_eq label text

  place_found : (i : ℕ) → place_in names text ≡ Some i → slice_get names i ≡ Some text
  place_found i e =
      let at = position-Some is_text names i [] e in
      slice_get-get_or names i [] at.0 ∙ ap Some ((bytes_decides (get_or names i []) text).0 at.1)

  place_none : place_in names text ≡ None → (i : ℕ) → slice_get names i ≢ Some text
  place_none e i h =
      let all = position-None_is is_text names e in
      let other = fails_before_first is_text names i [] (omega (arith, slice_get_within names i text h)) in
      both_ways (is_text (get_or names i [])) other ((bytes_decides (get_or names i []) text).1 (get_or_from_slice_get names i text [] h))

module _ (label text : List ℕ) (raw : ℕ) (others : Option ℕ) where
  -- the label beside the list, or what the list has
  or_else_found : (n : ℕ) (P : Type 0) → (label ≡ text → raw ≡ n → P) → (others ≡ Some n → P) → or_else_in label raw others text ≡ Some n → P
  or_else_found n P this other e =
      elim (cases_Bool (pointwise nat_eq label text)) [
        | inl t ↦ this ((bytes_decides label text).0 t) (let h = rw t at e in cc)
        | inr f ↦ other (rw f at e)
      ]

  or_else_none : or_else_in label raw others text ≡ None → (label ≢ text) × (others ≡ None)
  or_else_none e =
      elim (cases_Bool (pointwise nat_eq label text)) [
        | inl t ↦ absurd (let h = rw t at e in cc)
        | inr f ↦ (not_from_Decides (pointwise nat_eq label text) (bytes_decides label text) f, rw f at e)
      ]

known_answers : (P : ℕ → Type 0) (Q : Refusal → Type 0) (o : Option ℕ) → ((raw : ℕ) → o ≡ Some raw → P raw) → (o ≡ None → Q refusals.UnknownLabel) → MatchResult (known o) P Q
known_answers P Q None some none = none refl
known_answers P Q (Some raw) some none = some raw refl

enum_answers : (labels : ℕ) (text : List ℕ) → Answers (kinds.Enum labels) text (known (place_in (label_list labels) text))
enum_answers labels text =
    known_answers (Spells (kinds.Enum labels) text) (Refuses (kinds.Enum labels) text) (place_in (label_list labels) text) (place_found (label_list labels) text) (place_none (label_list labels) text)

bit_entries_few : length bit_names ≡ 63
unfolding bit_names
bit_entries_few = refl

position_entries_few : length position_names ≡ 12
unfolding position_names
position_entries_few = refl

bit_entry_found : (text : List ℕ) (raw : ℕ) → place_in bit_names text ≡ Some raw → bit_mux_label raw ≡ Some text
bit_entry_found text raw e =
    let at = place_found bit_names text raw e in
    let few : raw < 63 = omega (arith, slice_get_within bit_names raw text at, bit_entries_few) in
    bit_entry raw (λ h. omega arith) (λ h. omega arith) ∙ at

position_entry_found : (text : List ℕ) (raw : ℕ) → place_in position_names text ≡ Some raw → position_mux_label raw ≡ Some text
position_entry_found text raw e =
    let at = place_found position_names text raw e in
    let few : raw < 12 = omega (arith, slice_get_within position_names raw text at, position_entries_few) in
    position_entry raw (λ h. omega arith) ∙ at

abbrev bit_place : List ℕ → Option ℕ
bit_place text = or_else_in (codes "ZERO") 128 (or_else_in (codes "ONE") 129 (place_in bit_names text) text) text

bit_found : (text : List ℕ) (raw : ℕ) → bit_place text ≡ Some raw → bit_mux_label raw ≡ Some text
bit_found text raw =
    or_else_found (codes "ZERO") text 128 (or_else_in (codes "ONE") 129 (place_in bit_names text) text) raw (bit_mux_label raw ≡ Some text)
    (λ same at. subst (λ n. bit_mux_label n ≡ Some text) at (ap Some same))
    (or_else_found (codes "ONE") text 129 (place_in bit_names text) raw (bit_mux_label raw ≡ Some text) (λ same at. subst (λ n. bit_mux_label n ≡ Some text) at (ap Some same)) (bit_entry_found text raw))

bit_none : (text : List ℕ) → bit_place text ≡ None → (raw : ℕ) → bit_mux_label raw ≢ Some text
bit_none text e raw h =
    let zero_label = or_else_none (codes "ZERO") text 128 (or_else_in (codes "ONE") 129 (place_in bit_names text) text) e in
    let one_label = or_else_none (codes "ONE") text 129 (place_in bit_names text) zero_label.1 in
    elim (cases_eq raw 128) [
      | inl at ↦ zero_label.0 (same_Some (codes "ZERO") text (subst (λ n. bit_mux_label n ≡ Some text) at h))
      | inr not_zero ↦ elim (cases_eq raw 129) [
        | inl at ↦ one_label.0 (same_Some (codes "ONE") text (subst (λ n. bit_mux_label n ≡ Some text) at h))
        | inr not_one ↦ place_none bit_names text one_label.1 raw (sym (bit_entry raw not_zero not_one) ∙ h)
      ]
    ]

abbrev position_place : List ℕ → Option ℕ
position_place text = or_else_in (codes "ZERO") 32 (place_in position_names text) text

position_found : (text : List ℕ) (raw : ℕ) → position_place text ≡ Some raw → position_mux_label raw ≡ Some text
position_found text raw =
    or_else_found (codes "ZERO") text 32 (place_in position_names text) raw (position_mux_label raw ≡ Some text)
    (λ same at. subst (λ n. position_mux_label n ≡ Some text) at (ap Some same))
    (position_entry_found text raw)

position_none : (text : List ℕ) → position_place text ≡ None → (raw : ℕ) → position_mux_label raw ≢ Some text
position_none text e raw h =
    let zero_label = or_else_none (codes "ZERO") text 32 (place_in position_names text) e in
    elim (cases_eq raw 32) [
      | inl at ↦ zero_label.0 (same_Some (codes "ZERO") text (subst (λ n. position_mux_label n ≡ Some text) at h))
      | inr not_zero ↦ place_none position_names text zero_label.1 raw (sym (position_entry raw not_zero) ∙ h)
    ]

-- Each kind.

answers : (kind : FieldKind) (text : List ℕ) → IsSpelledKind kind → Answers kind text (spelled kind text)
unfolding spelled
answers (kinds.Uint limit) text k = uint_answers limit text
answers kinds.Int text k = int_answers text
answers kinds.Bit text k = uint_answers 1 text
answers (kinds.Enum labels) text k = enum_answers labels text
answers kinds.BitMux text k =
    known_answers (Spells kinds.BitMux text) (Refuses kinds.BitMux text) (bit_place text) (bit_found text) (bit_none text)
answers kinds.PosMux text k =
    known_answers (Spells kinds.PosMux text) (Refuses kinds.PosMux text) (position_place text) (position_found text) (position_none text)
answers kinds.Decimal text k = decimal_answers text
answers (kinds.Time limit units) text k = time_answers limit units text
answers kinds.Lut text k = function_answers text
answers kinds.Action text k = refl
answers kinds.Text text k = absurd k

-- Both ways.

module _ (kind : FieldKind) (text : List ℕ) where
  value_of_answer : (answer : Result ℕ Refusal) → Answers kind text answer → (raw : ℕ) → Spells kind text raw → answer ≡ Ok raw
  value_of_answer (Ok n) a raw h = ap Ok (spelled_once kind text n raw a h)
  value_of_answer (Err refusal) a raw h = absurd (not_both kind text raw refusal h a)

  refusal_of_answer : (answer : Result ℕ Refusal) → Answers kind text answer → (refusal : Refusal) → Refuses kind text refusal → answer ≡ Err refusal
  refusal_of_answer (Ok n) a refusal h = absurd (not_both kind text n refusal a h)
  refusal_of_answer (Err r) a refusal h = ap Err (refused_once kind text r refusal a h)

  pub spelled_value : IsSpelledKind kind → (raw : ℕ) → Spells kind text raw ↔ (spelled kind text ≡ Ok raw)
  spelled_value k raw =
      (value_of_answer (spelled kind text) (answers kind text k) raw, λ e. subst (Answers kind text) e (answers kind text k))

  pub spelled_refusal : IsSpelledKind kind → (refusal : Refusal) → Refuses kind text refusal ↔ (spelled kind text ≡ Err refusal)
  spelled_refusal k refusal =
      (refusal_of_answer (spelled kind text) (answers kind text k) refusal, λ e. subst (Answers kind text) e (answers kind text k))

  -- what a reader answers is what is computed
  pub read_computed : IsSpelledKind kind → (read : Result ℕ Refusal) → IfOk read (Spells kind text) → IfErr read (Refuses kind text) → read ≡ spelled kind text
  read_computed k (Ok n) found refused = sym ((spelled_value k n).0 found)
  read_computed k (Err refusal) found refused = sym ((spelled_refusal k refusal).0 refused)

-- there is a value, or a reason
answered : (kind : FieldKind) (text : List ℕ) (answer : Result ℕ Refusal) → Answers kind text answer → ((raw : ℕ) × Spells kind text raw) ⊎ ((refusal : Refusal) × Refuses kind text refusal)
answered kind text (Ok n) a = inl (n, a)
answered kind text (Err refusal) a = inr (refusal, a)

pub value_or_refusal : (kind : FieldKind) (text : List ℕ) → IsSpelledKind kind → ((raw : ℕ) × Spells kind text raw) ⊎ ((refusal : Refusal) × Refuses kind text refusal)
value_or_refusal kind text k = answered kind text (spelled kind text) (answers kind text k)

-- for the reader of a value
pub ruleset reading = (only_value, read_in_range, read_computed)

-- Selections.

there_within : (names : List (List ℕ)) (raw : ℕ) → IsSome (slice_get names raw) → raw < length names
there_within names raw h = slice_get_within names raw _ (there_is (slice_get names raw) h)

pub bit_selection_small : (raw : ℕ) → IsSome (bit_mux_label raw) → raw ≤ 129
bit_selection_small raw h =
    elim (cases_eq raw 128) [
      | inl at ↦ omega arith
      | inr not_zero ↦ elim (cases_eq raw 129) [
        | inl at ↦ omega arith
        | inr not_one ↦ omega (arith, there_within bit_names raw (subst IsSome (bit_entry raw not_zero not_one) h), bit_entries_few)
      ]
    ]

pub position_selection_small : (raw : ℕ) → IsSome (position_mux_label raw) → raw ≤ 32
position_selection_small raw h =
    elim (cases_eq raw 32) [
      | inl at ↦ omega arith
      | inr not_zero ↦ omega (arith, there_within position_names raw (subst IsSome (position_entry raw not_zero) h), position_entries_few)
    ]
