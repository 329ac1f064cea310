-- A text spells one raw value of a kind or is refused for one reason, and what is printed of a raw
-- value spells it.
use Rattle.std.proofs.Common.{◌≡◌, ℕ, zero, suc, ◌*◌, ◌^◌, ◌<◌, ◌≤◌, List, [], length, ℤ, pos, negsuc, unsigned_abs, FitsSigned, Some, Result, Ok, Err, IfOk, IfErr, inl, inr, sym, ap, subst, ◌∙◌, refl, arith}
use Rattle.std.specs.Int.{w32, w64, cast_unsigned, cast_signed}
use Rattle.std.proofs.lemmas.Int.{of_z-to_z}
use Rattle.std.proofs.lemmas.Option.{slice_get-get_or, unwrap_or-slice_get}
use Rattle.pb_words.specs.declared.Refusal.{Refusal}
use Rattle.pb_words.specs.declared.Refusal.TheVariants as refusals
use Rattle.pb_words.specs.Signed.{int_value}
use Rattle.pb_words.specs.Decimals.{Decimal, decimal_value}
use Rattle.pb_words.proofs.NumberLemmas.{decimal_writes}
use Rattle.pb_words.proofs.SignedReadBack.{int_once, signed_writes}
use Rattle.pb_words.proofs.DecimalReadBack.{decimal_once, canonical_writes}
use Rattle.pb_lut.proofs.FunctionLemmas.{WritesFunction-unique}
use Rattle.pb_fields.specs.declared.kinds.FieldKind.{FieldKind}
use Rattle.pb_fields.specs.declared.kinds.FieldKind.TheVariants as kinds
use Rattle.pb_fields.specs.Labels.{label_list, bit_mux_label, position_mux_label}
use Rattle.pb_fields.specs.Values.{Spells, IsMalformed, IsOutOfRange, IsUnknown, Refuses, IsRaw, IsShownKind, shown, HasTicks, IsNoTime, nearest_ticks, tick_size}
use Rattle.pb_fields.proofs.LabelLaws.{label_once, bit_mux_once, position_mux_once, there_is}
use Rattle.pb_fields.proofs.ValueHex.{hex_writes}

-- One value.

ticks_once : (units : ℕ) (v : ℤ) (m n : ℕ) → HasTicks units v m → HasTicks units v n → m ≡ n
ticks_once units (pos b) m n h k = sym h ∙ k
ticks_once units (negsuc b) m n h k = absurd h

pub spelled_once : (kind : FieldKind) (text : List ℕ) (m n : ℕ) → Spells kind text m → Spells kind text n → m ≡ n
spelled_once (kinds.Uint limit) text m n h k = sym h.0.value ∙ k.0.value
spelled_once kinds.Int text m n h k =
    sym h.3 ∙ ap (λ i. cast_unsigned w64 (int_value i)) (int_once text h.0 k.0 h.1 k.1) ∙ k.3
spelled_once kinds.Bit text m n h k = sym h.0.value ∙ k.0.value
spelled_once (kinds.Enum labels) text m n h k = label_once labels m n text h k
spelled_once kinds.BitMux text m n h k = bit_mux_once m n text h k
spelled_once kinds.PosMux text m n h k = position_mux_once m n text h k
spelled_once kinds.Decimal text m n h k =
    sym h.3 ∙ ap (λ d. cast_unsigned w64 (decimal_value d)) (decimal_once text h.0 k.0 h.1 k.1) ∙ k.3
spelled_once (kinds.Time limit units) text m n h k =
    ticks_once units (decimal_value k.0) m n (subst (λ d. HasTicks units (decimal_value d) m) (decimal_once text h.0 k.0 h.1 k.1) h.3) k.3
spelled_once kinds.Lut text m n h k = WritesFunction-unique text m n h k
spelled_once kinds.Action text m n h k = h ∙ sym k
spelled_once kinds.Text text m n h k = absurd h

-- A value or a refusal.

not_malformed : (kind : FieldKind) (text : List ℕ) (raw : ℕ) → Spells kind text raw → IsMalformed kind text → ⊥
not_malformed (kinds.Uint limit) text raw h k = k h.0.grammar
not_malformed kinds.Int text raw h k = k h.0 h.1
not_malformed kinds.Bit text raw h k = k h.0.grammar
not_malformed (kinds.Enum labels) text raw h k = k
not_malformed kinds.BitMux text raw h k = k
not_malformed kinds.PosMux text raw h k = k
not_malformed kinds.Decimal text raw h k = k h.0 h.1
not_malformed (kinds.Time limit units) text raw h k = k h.0 h.1
not_malformed kinds.Lut text raw h k = k raw h
not_malformed kinds.Action text raw h k = k
not_malformed kinds.Text text raw h k = k

within_limit : (limit units raw : ℕ) (v : ℤ) → HasTicks units v raw → raw ≤ limit → IsNoTime limit units v → ⊥
within_limit limit units raw (pos b) h k n = omega (arith, h, k, n)
within_limit limit units raw (negsuc b) h k n = h

not_out_of_range : (kind : FieldKind) (text : List ℕ) (raw : ℕ) → Spells kind text raw → IsOutOfRange kind text → ⊥
not_out_of_range (kinds.Uint limit) text raw h k = omega (arith, h.0.value, h.1, k.1)
not_out_of_range kinds.Int text raw h k =
    k.2 (subst (λ i. FitsSigned w32 (int_value i)) (int_once text h.0 k.0 h.1 k.1) h.2)
not_out_of_range kinds.Bit text raw h k = omega (arith, h.0.value, h.1, k.1)
not_out_of_range (kinds.Enum labels) text raw h k = k
not_out_of_range kinds.BitMux text raw h k = k
not_out_of_range kinds.PosMux text raw h k = k
not_out_of_range kinds.Decimal text raw h k =
    omega (arith, h.2, k.2, ap (λ (d : Decimal). length d.whole) (decimal_once text h.0 k.0 h.1 k.1))
not_out_of_range (kinds.Time limit units) text raw h k =
    let once = decimal_once text h.0 k.0 h.1 k.1 in
    elim k.2 [
      | inl long ↦ omega (arith, h.2, long, ap (λ (d : Decimal). length d.whole) once)
      | inr none ↦ within_limit limit units raw (decimal_value k.0) (subst (λ d. HasTicks units (decimal_value d) raw) once h.3) h.4 none
    ]
not_out_of_range kinds.Lut text raw h k = k
not_out_of_range kinds.Action text raw h k = k
not_out_of_range kinds.Text text raw h k = k

not_unknown : (kind : FieldKind) (text : List ℕ) (raw : ℕ) → Spells kind text raw → IsUnknown kind text → ⊥
not_unknown (kinds.Enum labels) text raw h k = k raw h
not_unknown kinds.BitMux text raw h k = k raw h
not_unknown kinds.PosMux text raw h k = k raw h
not_unknown kind text raw h k = k

pub not_both : (kind : FieldKind) (text : List ℕ) (raw : ℕ) (refusal : Refusal) → Spells kind text raw → Refuses kind text refusal → ⊥
not_both kind text raw refusals.MalformedValue h k = not_malformed kind text raw h k
not_both kind text raw refusals.ValueOutOfRange h k = not_out_of_range kind text raw h k
not_both kind text raw refusals.UnknownLabel h k = not_unknown kind text raw h k
not_both kind text raw refusal h k = k

-- what a reader answers is the one value that is spelled
pub only_value : (kind : FieldKind) (text : List ℕ) (read : Result ℕ Refusal) → IfOk read (Spells kind text) → IfErr read (Refuses kind text) → (raw : ℕ) → Spells kind text raw → read ≡ Ok raw
only_value kind text (Ok n) found refused raw h = ap Ok (spelled_once kind text n raw found h)
only_value kind text (Err refusal) found refused raw h = absurd (not_both kind text raw refusal h refused)

-- One refusal.

either : (kind : FieldKind) (text : List ℕ) → IsMalformed kind text → IsOutOfRange kind text → ⊥
either (kinds.Uint limit) text h k = h k.0
either kinds.Int text h k = h k.0 k.1
either kinds.Bit text h k = h k.0
either kinds.Decimal text h k = h k.0 k.1
either (kinds.Time limit units) text h k = h k.0 k.1
either kind text h k = k

known_if_malformed : (kind : FieldKind) (text : List ℕ) → IsMalformed kind text → IsUnknown kind text → ⊥
known_if_malformed (kinds.Enum labels) text h k = h
known_if_malformed kinds.BitMux text h k = h
known_if_malformed kinds.PosMux text h k = h
known_if_malformed kind text h k = k

known_in_grammar : (kind : FieldKind) (text : List ℕ) → IsOutOfRange kind text → IsUnknown kind text → ⊥
known_in_grammar (kinds.Enum labels) text h k = h
known_in_grammar kinds.BitMux text h k = h
known_in_grammar kinds.PosMux text h k = h
known_in_grammar kind text h k = k

pub refused_once : (kind : FieldKind) (text : List ℕ) (r s : Refusal) → Refuses kind text r → Refuses kind text s → r ≡ s
refused_once kind text refusals.MalformedValue refusals.MalformedValue h k = refl
refused_once kind text refusals.MalformedValue refusals.ValueOutOfRange h k = absurd (either kind text h k)
refused_once kind text refusals.MalformedValue refusals.UnknownLabel h k = absurd (known_if_malformed kind text h k)
refused_once kind text refusals.MalformedValue s h k = absurd k
refused_once kind text refusals.ValueOutOfRange refusals.MalformedValue h k = absurd (either kind text k h)
refused_once kind text refusals.ValueOutOfRange refusals.ValueOutOfRange h k = refl
refused_once kind text refusals.ValueOutOfRange refusals.UnknownLabel h k = absurd (known_in_grammar kind text h k)
refused_once kind text refusals.ValueOutOfRange s h k = absurd k
refused_once kind text refusals.UnknownLabel refusals.MalformedValue h k = absurd (known_if_malformed kind text k h)
refused_once kind text refusals.UnknownLabel refusals.ValueOutOfRange h k = absurd (known_in_grammar kind text k h)
refused_once kind text refusals.UnknownLabel refusals.UnknownLabel h k = refl
refused_once kind text refusals.UnknownLabel s h k = absurd k
refused_once kind text r s h k = absurd h

-- What is printed.

round_trip : (units raw : ℕ) → units ≤ 2 → nearest_ticks units (raw * tick_size units) ≡ raw
round_trip zero raw h = omega arith
round_trip (suc zero) raw h = omega arith
round_trip (suc (suc zero)) raw h = omega arith
round_trip (suc (suc (suc n))) raw h = absurd (omega arith)

time_fits : (units raw : ℕ) → units ≤ 2 → raw < 2 ^ 64 → raw * tick_size units < 10 ^ 27
time_fits zero raw h k = omega arith
time_fits (suc zero) raw h k = omega arith
time_fits (suc (suc zero)) raw h k = omega arith
time_fits (suc (suc (suc n))) raw h k = absurd (omega arith)

printed_time : (limit units raw : ℕ) → units ≤ 2 → raw ≤ limit → raw < 2 ^ 64 → Spells (kinds.Time limit units) (shown (kinds.Time limit units) raw) raw
printed_time limit units raw h r f =
    let b : ℕ = raw * tick_size units in
    let fits = time_fits units raw h f in
    let w = canonical_writes 18 (pos b) (omega arith) (omega arith) fits in
    (w.written, w.writes, w.few, subst (λ v. HasTicks units v raw) (sym w.value) (round_trip units raw h), r)

printed_decimal : (raw : ℕ) → raw < 2 ^ 64 → unsigned_abs (cast_signed w64 raw) < 10 ^ 18 → Spells kinds.Decimal (shown kinds.Decimal raw) raw
printed_decimal raw f h =
    let z : ℤ = cast_signed w64 raw in
    let w = canonical_writes 9 z (omega arith) (omega arith) (omega arith) in
    (w.written, w.writes, w.few, ap (λ v. cast_unsigned w64 v) w.value ∙ of_z-to_z w64 raw f)

printed_int : (raw : ℕ) → raw < 2 ^ 64 → FitsSigned w32 (cast_signed w64 raw) → Spells kinds.Int (shown kinds.Int raw) raw
printed_int raw f h =
    let z : ℤ = cast_signed w64 raw in
    let w = signed_writes z (omega (arith, h.sfits)) in
    (w.0, w.1, subst (FitsSigned w32) (sym w.2) h, ap (λ v. cast_unsigned w64 v) w.2 ∙ of_z-to_z w64 raw f)

pub printed_is_spelled : (kind : FieldKind) (raw : ℕ) → IsShownKind kind → IsRaw kind raw → raw < 2 ^ 64 → Spells kind (shown kind raw) raw
printed_is_spelled (kinds.Uint limit) raw s r f = (decimal_writes raw f, r)
printed_is_spelled kinds.Int raw s r f = printed_int raw r.0 r.1
printed_is_spelled kinds.Bit raw s r f = (decimal_writes raw f, r)
printed_is_spelled (kinds.Enum labels) raw s r f =
    slice_get-get_or (label_list labels) raw [] r ∙ ap Some (sym (unwrap_or-slice_get (label_list labels) raw []))
printed_is_spelled kinds.BitMux raw s r f = there_is (bit_mux_label raw) r
printed_is_spelled kinds.PosMux raw s r f = there_is (position_mux_label raw) r
printed_is_spelled kinds.Decimal raw s r f = printed_decimal raw r.0 r.1
printed_is_spelled (kinds.Time limit units) raw s r f = printed_time limit units raw s r f
printed_is_spelled kinds.Lut raw s r f = hex_writes raw r
printed_is_spelled kinds.Action raw s r f = absurd s
printed_is_spelled kinds.Text raw s r f = absurd s
