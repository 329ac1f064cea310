-- What a text spells is in the range of its kind.
use Rattle.std.proofs.Common.{◌≡◌, ℕ, ◌^◌, ◌<◌, ◌≤◌, List, [], ◌∷◌, length, All, ℤ, pos, negsuc, unsigned_abs, FitsSigned, Option, Some, IsSome, Result, Ok, Err, IfOk, inl, inr, sym, subst, refl, arith}
use Rattle.std.specs.Int.{w32, w64, cast_unsigned, cast_signed}
use Rattle.std.specs.Char.{digit_value}
use Rattle.std.specs.Str.Parse.{AllDigits}
use Rattle.std.proofs.lemmas.List.Elements.{All-head, All-tail}
use Rattle.std.proofs.Math.Nat.{pow-le-pow_right}
use Rattle.std.proofs.lemmas.Int.{to_z-of_z, fits_signed_from_abs}
use Rattle.std.proofs.lemmas.Int.Digits.{digits_value-lt}
use Rattle.std.proofs.lemmas.Option.{slice_get_within}
use Rattle.pb_words.specs.declared.Refusal.{Refusal}
use Rattle.pb_words.specs.Signed.{int_value}
use Rattle.pb_words.specs.Decimals.{decimal_value}
use Rattle.pb_lut.specs.Functions.{WritesFunction}
use Rattle.pb_lut.proofs.ExpressionLemmas.{number-lt}
use Rattle.pb_fields.specs.declared.kinds.FieldKind.{FieldKind}
use Rattle.pb_fields.specs.declared.kinds.FieldKind.TheVariants as kinds
use Rattle.pb_fields.specs.Labels.{label_list}
use Rattle.pb_fields.specs.Values.{Spells, IsRaw}
use Rattle.pb_fields.proofs.ValueLimits.{short_value}

-- a number that is small as a signed number, modulo 2^64 and back
unsigned_small : (z : ℤ) → unsigned_abs z < 2 ^ 63 → cast_unsigned w64 z < 2 ^ 64
unsigned_small (pos n) h = omega arith
unsigned_small (negsuc n) h = omega arith

signed_back : (z : ℤ) → unsigned_abs z < 2 ^ 63 → cast_signed w64 (cast_unsigned w64 z) ≡ z
signed_back z h = to_z-of_z w64 z (fits_signed_from_abs w64 z h)

fits_small : (z : ℤ) → FitsSigned w32 z → unsigned_abs z < 2 ^ 63
fits_small (pos n) f = omega (arith, f.sfits)
fits_small (negsuc n) f = omega (arith, f.sfits)

all_digits : (ds : List ℕ) → All (λ c. digit_value c < 16) ds → AllDigits 16 ds
all_digits [] a = tt
all_digits (c ∷ cs) a =
    (All-head (λ c. digit_value c < 16) c cs a, all_digits cs (All-tail (λ c. digit_value c < 16) c cs a))

function_fits : (text : List ℕ) (n : ℕ) → WritesFunction text n → n < 2 ^ 32
function_fits text n w =
    elim w.written [
      | inl hex ↦
          let most : 16 ^ length hex.digits ≤ 16 ^ 8 = pow-le-pow_right {n = 16} (omega arith) {i = length hex.digits} {j = 8} hex.value.few in
          omega (arith, digits_value-lt 16 hex.digits (all_digits hex.digits hex.value.each), hex.value.value, most)
      | inr expression ↦ omega (arith, number-lt expression.tree, expression.value)
    ]

label_there : (o : Option (List ℕ)) (text : List ℕ) → o ≡ Some text → IsSome o
label_there o text e = subst IsSome (sym e) refl

int_in_range : (z : ℤ) (raw : ℕ) → FitsSigned w32 z → cast_unsigned w64 z ≡ raw → IsRaw kinds.Int raw
int_in_range z raw f e =
    subst (IsRaw kinds.Int) e (unsigned_small z (fits_small z f), subst (FitsSigned w32) (sym (signed_back z (fits_small z f))) f)

decimal_in_range : (z : ℤ) (raw : ℕ) → unsigned_abs z < 10 ^ 18 → cast_unsigned w64 z ≡ raw → IsRaw kinds.Decimal raw
decimal_in_range z raw f e =
    let P : ℤ → Type 0 = λ v. unsigned_abs v < 10 ^ 18 in
    let small : unsigned_abs z < 2 ^ 63 = omega arith in
    subst (IsRaw kinds.Decimal) e (unsigned_small z small, subst P (sym (signed_back z small)) f)

pub spelled_in_range : (kind : FieldKind) (text : List ℕ) (raw : ℕ) → Spells kind text raw → IsRaw kind raw
spelled_in_range (kinds.Uint limit) text raw h = h.1
spelled_in_range kinds.Int text raw h = int_in_range (int_value h.0) raw h.2 h.3
spelled_in_range kinds.Bit text raw h = h.1
spelled_in_range (kinds.Enum labels) text raw h = slice_get_within (label_list labels) raw text h
spelled_in_range kinds.BitMux text raw h = label_there _ text h
spelled_in_range kinds.PosMux text raw h = label_there _ text h
spelled_in_range kinds.Decimal text raw h = decimal_in_range (decimal_value h.0) raw (short_value h.0 h.1.grammar h.2) h.3
spelled_in_range (kinds.Time limit units) text raw h = h.4
spelled_in_range kinds.Lut text raw h = function_fits text raw h
spelled_in_range kinds.Action text raw h = h
spelled_in_range kinds.Text text raw h = h

-- the same of what a reader answers
pub read_in_range : (kind : FieldKind) (text : List ℕ) (read : Result ℕ Refusal) → IfOk read (Spells kind text) → IfOk read (IsRaw kind)
read_in_range kind text (Ok n) h = spelled_in_range kind text n h
read_in_range kind text (Err refusal) h = tt
