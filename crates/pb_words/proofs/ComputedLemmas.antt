-- What is computed of a text is what the text writes.
use Rattle.std.proofs.Common.{◌≡◌, ℕ, ◌+◌, Bool, not, ◌&&◌, nat_eq, nat_lt, nat_le, List, [], ◌∷◌, ◌++◌, length, All, Option, Some, None, if◌then◌else◌, refl, ap, sym, ◌∙◌, subst, inl, inr, arith}
use Rattle.std.proofs.Math.Seq.{take-append_seam, drop-append_seam}
use Rattle.std.specs.Bool.{Decides}
use Rattle.std.specs.List.{list_all, position_or_len}
use Rattle.std.specs.Cmp.Lexicographic.{pointwise, bytes_decides}
use Rattle.std.proofs.lemmas.Bool.{cases_Bool, and_parts, and_from, false_from_ne_true, ne_eqb, eqb-true, leb-true, le-leb, cond-true}
use Rattle.std.proofs.lemmas.Bool.Decides.{Decides-by_and, Decides-and, Decides-ltb, Decides-like}
use Rattle.std.proofs.lemmas.List.Elements.{All-head, All-tail}
use Rattle.std.proofs.lemmas.Option.{cond_some}
use Rattle.pb_words.specs.declared.signed.Sign.{Sign}
use Rattle.pb_words.specs.declared.signed.Sign.TheVariants as signs
use Rattle.pb_words.specs.Numbers.{IsDigit, IsUint}
use Rattle.pb_words.specs.Signed.{Int, WritesInt, sign_text, is_digit, is_uint, sign_cut, int_of}
use Rattle.pb_words.specs.Cuts.{BeginsNoDigit}
use Rattle.pb_words.specs.Decimals.{Decimal, IsDecimal, WritesDecimal, point_text, places_of, decimal_text, digits_in, behind_digits, places_behind, decimal_cut, is_decimal, decimal_of}
use Rattle.pb_words.specs.Parts.{BeginsNoSign}
use Rattle.pb_words.proofs.SignedLemmas.{begins_no_sign}
use Rattle.pb_words.proofs.DecimalLemmas.{point_begins_no_digit, unsigned_begins_no_sign}

-- Numbers without a sign.

digit_decides : (b : ℕ) → Decides (is_digit b) (IsDigit b)
digit_decides b =
    Decides-and (nat_le 48 b) (nat_le b 57) (leb-true 48 b, le-leb 48 b) (leb-true b 57, le-leb b 57)

digits_decide : (text : List ℕ) → Decides (list_all is_digit text) (All IsDigit text)
digits_decide text = Decides-by_and is_digit IsDigit (list_all is_digit) digit_decides refl (λ _ _. refl) text

pub uint_decides : (text : List ℕ) → Decides (is_uint text) (IsUint text)
uint_decides text =
    Decides-like (is_uint text) (λ p. record { some = p.0; digits = p.1 }) (λ u. (u.some, u.digits))
    (Decides-and (nat_lt 0 (length text)) (list_all is_digit text) (Decides-ltb 0 (length text)) (digits_decide text))

-- Whole numbers with a sign.

-- the text is the sign that is cut off and the rest
cut_whole : (text : List ℕ) → text ≡ sign_text (sign_cut text).0 ++ (sign_cut text).1
cut_whole [] = refl
cut_whole (b ∷ bs) =
    elim (cases_Bool (nat_eq b 43)) [
      | inl plus ↦ rw plus (ap (λ c. c ∷ bs) (eqb-true b 43 plus))
      | inr other ↦ elim (cases_Bool (nat_eq b 45)) [
        | inl minus ↦ rw (other, minus) (ap (λ c. c ∷ bs) (eqb-true b 45 minus))
        | inr none ↦ rw (other, none) refl
      ]
    ]

-- a sign before what begins with none is cut off
cut_off : (sign : Sign) (rest : List ℕ) → BeginsNoSign rest → sign_cut (sign_text sign ++ rest) ≡ (sign, rest)
cut_off signs.Absent [] h = refl
cut_off signs.Absent (b ∷ bs) h = rw (ne_eqb b 43 h.0, ne_eqb b 45 h.1) refl
cut_off signs.Plus rest h = refl
cut_off signs.Minus rest h = refl

pub int_found : (text : List ℕ) (i : Int) → WritesInt text i → int_of text ≡ Some i
unfolding int_of
int_found text i w =
    let cut = ap sign_cut w.printed ∙ cut_off i.sign i.digits (begins_no_sign i.digits w.grammar.digits) in
    rw (cut, (uint_decides i.digits).1 w.grammar) refl

pub int_written : (text : List ℕ) (i : Int) → int_of text ≡ Some i → WritesInt text i
unfolding int_of
int_written text i e =
    let cut : Int = record { sign = (sign_cut text).0; digits = (sign_cut text).1 } in
    let p = cond_some (is_uint (sign_cut text).1) cut i e in
    subst (WritesInt text) p.1 (record { grammar = (uint_decides (sign_cut text).1).0 p.0; printed = cut_whole text })

-- Decimals.

-- as many bytes as there are digits in front
front_length : (whole rest : List ℕ) → All IsDigit whole → BeginsNoDigit rest → position_or_len (λ b. not (is_digit b)) (whole ++ rest) ≡ length whole
front_length [] [] a h = refl
front_length [] (b ∷ rest) a h =
    rw (false_from_ne_true (is_digit b) (λ t. h ((digit_decides b).0 t))) refl
front_length (b ∷ whole) rest a h =
    rw ((digit_decides b).1 (All-head IsDigit b whole a))
    (omega (arith, front_length whole rest (All-tail IsDigit b whole a) h))

digits_cut : (text whole rest : List ℕ) → text ≡ whole ++ rest → All IsDigit whole → BeginsNoDigit rest → (digits_in text ≡ whole) × (behind_digits text ≡ rest)
digits_cut text whole rest e a h =
    let n = ap (position_or_len (λ b. not (is_digit b))) e ∙ front_length whole rest a h in
    (rw (n, e) (take-append_seam whole rest), rw (n, e) (drop-append_seam whole rest))

places_back : (p : Option (List ℕ)) → places_behind (point_text p) ≡ p
places_back None = refl
places_back (Some places) = refl

abbrev made : Sign → List ℕ → Option (List ℕ) → Decimal
made s w p = record { sign = s; whole = w; after_point = p }

-- a decimal is cut as it is written
cut_again : (text : List ℕ) (d : Decimal) → WritesDecimal text d → decimal_cut text ≡ d
cut_again text d w =
    let unsigned : List ℕ = d.whole ++ point_text d.after_point in
    let sign = ap sign_cut w.printed ∙ cut_off d.sign unsigned (unsigned_begins_no_sign d.whole d.after_point w.grammar.whole) in
    let digits = digits_cut (sign_cut text).1 d.whole (point_text d.after_point) (ap (λ (p : Sign × List ℕ). p.1) sign) w.grammar.whole (point_begins_no_digit d.after_point) in
    let first : made (sign_cut text).0 (digits_in (sign_cut text).1) (places_behind (behind_digits (sign_cut text).1)) ≡ made d.sign (digits_in (sign_cut text).1) (places_behind (behind_digits (sign_cut text).1)) = ap (λ s. made s (digits_in (sign_cut text).1) (places_behind (behind_digits (sign_cut text).1))) (ap (λ (p : Sign × List ℕ). p.0) sign) in
    first
    ∙ ap (λ x. made d.sign x (places_behind (behind_digits (sign_cut text).1))) digits.0
    ∙ ap (λ x. made d.sign d.whole (places_behind x)) digits.1
    ∙ ap (made d.sign d.whole) (places_back d.after_point)

decimal_decides : (d : Decimal) → Decides (is_decimal d) (IsDecimal d)
decimal_decides d =
    let places : List ℕ = places_of d.after_point in
    let whole_test : Bool = list_all is_digit d.whole in
    let places_test : Bool = list_all is_digit places in
    let some_test : Bool = nat_lt 0 (length d.whole + length places) in
    let nine_test : Bool = nat_le (length places) 9 in
    let digits = Decides-and whole_test places_test (digits_decide d.whole) (digits_decide places) in
    let some = Decides-and (whole_test && places_test) some_test digits (Decides-ltb 0 (length d.whole + length places)) in
    Decides-like (is_decimal d) (λ p. record { whole = p.0.0.0; places = p.0.0.1; some = p.0.1; nine = p.1 })
    (λ g. (((g.whole, g.places), g.some), g.nine))
    (Decides-and (whole_test && places_test && some_test) nine_test some (leb-true (length places) 9, le-leb (length places) 9))

-- this decimal, where the text is it
abbrev kept : List ℕ → Decimal → Option Decimal
kept text d = if is_decimal d && pointwise nat_eq (decimal_text d) text then Some d else None

pub decimal_found : (text : List ℕ) (d : Decimal) → WritesDecimal text d → decimal_of text ≡ Some d
unfolding decimal_of
decimal_found text d w =
    let tests = and_from (is_decimal d) (pointwise nat_eq (decimal_text d) text) ((decimal_decides d).1 w.grammar) ((bytes_decides (decimal_text d) text).1 (sym w.printed)) in
    ap (kept text) (cut_again text d w) ∙ cond-true _ (Some d) None tests

pub decimal_written : (text : List ℕ) (d : Decimal) → decimal_of text ≡ Some d → WritesDecimal text d
unfolding decimal_of
decimal_written text d e =
    let cut : Decimal = decimal_cut text in
    let p = cond_some (is_decimal cut && pointwise nat_eq (decimal_text cut) text) cut d e in
    let tests = and_parts (is_decimal cut) (pointwise nat_eq (decimal_text cut) text) p.0 in
    subst (WritesDecimal text) p.1
    (record { grammar = (decimal_decides cut).0 tests.0; printed = sym ((bytes_decides (decimal_text cut) text).0 tests.1) })
