-- A text is read in one way as a decimal, and the canonical text of a decimal is read as it.
use Rattle.std.proofs.Common.{◌≡◌, ℕ, suc, ◌+◌, ◌*◌, ◌/◌, ◌%◌, ◌<◌, ◌≤◌, ◌^◌, List, ◌++◌, length, ℤ, pos, negsuc, unsigned_abs, decimal, Option, Result, Ok, Err, sym, ap, ◌∙◌, arith}
use Rattle.std.proofs.lemmas.Fmt.{length-decimal-le}
use Rattle.pb_words.specs.declared.numbers.NumFault.{NumFault}
use Rattle.pb_words.specs.declared.numbers.NumFault.TheVariants as faults
use Rattle.pb_words.specs.declared.signed.Sign.{Sign}
use Rattle.pb_words.specs.declared.signed.Sign.TheVariants as signs
use Rattle.pb_words.specs.declared.decimals.Decimal9.{Decimal9}
use Rattle.pb_words.specs.Numbers.{value_of}
use Rattle.pb_words.specs.Signed.{sign_text, signed}
use Rattle.pb_words.specs.Decimals.{Decimal, WritesDecimal, ReadsDecimal, point_text, places_of, nine_places, decimal_value, canonical, canonical_size}
use Rattle.pb_words.proofs.NumberLemmas.{decimal_writes}
use Rattle.pb_words.proofs.SignedReadBack.{sign_once}
use Rattle.pb_words.proofs.CutLemmas.{digits_cut_once}
use Rattle.pb_words.proofs.DecimalLemmas.{point_begins_no_digit, unsigned_begins_no_sign, point_once}
use Rattle.pb_words.proofs.PlaceValues.{point_of}

made : Sign → List ℕ → Option (List ℕ) → Decimal
made s w p = record { sign = s; whole = w; after_point = p }

pub decimal_once : (text : List ℕ) (d e : Decimal) → WritesDecimal text d → WritesDecimal text e → d ≡ e
unfolding made
decimal_once text d e v w =
    let by_sign = sign_once d.sign e.sign (d.whole ++ point_text d.after_point) (e.whole ++ point_text e.after_point) (unsigned_begins_no_sign d.whole d.after_point v.grammar.whole) (unsigned_begins_no_sign e.whole e.after_point w.grammar.whole) (sym v.printed ∙ w.printed) in
    let by_digits = digits_cut_once d.whole e.whole (point_text d.after_point) (point_text e.after_point) v.grammar.whole w.grammar.whole (point_begins_no_digit d.after_point) (point_begins_no_digit e.after_point) by_sign.1 in
    let point = point_once d.after_point e.after_point by_digits.1 in
    let first : made d.sign d.whole d.after_point ≡ made e.sign d.whole d.after_point = ap (λ s. made s d.whole d.after_point) by_sign.0 in
    let second : made e.sign d.whole d.after_point ≡ made e.sign e.whole d.after_point = ap (λ x. made e.sign x d.after_point) by_digits.0 in
    let third : made e.sign e.whole d.after_point ≡ made e.sign e.whole e.after_point = ap (λ p. made e.sign e.whole p) point in
    first ∙ second ∙ third

-- a decimal of that value and of so few whole digits, of which the text is the canonical one
pub record Canonical (most : ℕ) (text : List ℕ) (z : ℤ) : Type 0 where
  pub written : Decimal
  pub writes : WritesDecimal text written
  pub few : length written.whole ≤ most
  pub value : decimal_value written ≡ z

size_writes : (most : ℕ) (sign : Sign) (n : ℕ) → 0 < most → n / 10 ^ 9 < 10 ^ most → n < 10 ^ 27 → Canonical most (sign_text sign ++ canonical_size n) (signed sign n)
size_writes most sign n some fits h =
    let w = decimal_writes (n / 10 ^ 9) (omega arith) in
    let p = point_of (n % 10 ^ 9) (omega arith) in
    let sum : value_of (decimal (n / 10 ^ 9)) * 10 ^ 9 + value_of (nine_places (places_of p.point)) ≡ n = omega (arith, w.value, p.value) in
    record {
      written = record { sign = sign; whole = decimal (n / 10 ^ 9); after_point = p.point };
      writes = record {
        grammar = record { whole = w.grammar.digits; places = p.digits; some = omega (arith, w.grammar.some); nine = p.nine };
        printed = ap (λ x. sign_text sign ++ (decimal (n / 10 ^ 9) ++ x)) (sym p.printed);
      };
      few = length-decimal-le most (n / 10 ^ 9) some fits (omega arith);
      value = ap (signed sign) sum;
    }

pub canonical_writes : (most : ℕ) (z : ℤ) → 0 < most → unsigned_abs z / 10 ^ 9 < 10 ^ most → unsigned_abs z < 10 ^ 27 → Canonical most (canonical z) z
unfolding canonical
canonical_writes most (pos n) some fits h = size_writes most signs.Absent n some fits h
canonical_writes most (negsuc n) some fits h = size_writes most signs.Minus (suc n) some fits h

canonical_writes_18 : (z : ℤ) → unsigned_abs z < 10 ^ 27 → Canonical 18 (canonical z) z
canonical_writes_18 z h = canonical_writes 18 z (omega arith) (omega arith) h

pub canonical_read_back : (v : Decimal9) (read : Result Decimal9 NumFault) → unsigned_abs v.billionths < 10 ^ 27 → ReadsDecimal (canonical v.billionths) read → read ≡ Ok v
canonical_read_back v (Ok x) f h =
    let w = canonical_writes_18 v.billionths f in
    let once = decimal_once _ h.0 w.written h.1 w.writes in
    let same : x.billionths ≡ v.billionths = sym h.3 ∙ ap decimal_value once ∙ w.value in
    ap (λ (b : ℤ). Ok (let y : Decimal9 = record { billionths = b } in y)) same
canonical_read_back v (Err faults.Malformed) f h =
    let w = canonical_writes_18 v.billionths f in
    absurd (h w.written w.writes)
canonical_read_back v (Err faults.TooLarge) f h =
    let w = canonical_writes_18 v.billionths f in
    let once = decimal_once _ h.0 w.written h.1 w.writes in
    absurd (omega (arith, h.2, ap (λ (d : Decimal). length d.whole) once, w.few))
