-- A text is cut into its sign, its whole digits and its places in one way, and so read in one way.
use Rattle.std.proofs.Common.{◌≡◌, ℕ, ◌+◌, ◌-◌, ◌≤◌, List, [], ◌∷◌, ◌++◌, length, get_or, take, drop, All, Option, Some, None, sym, ap, ◌∙◌, refl, arith}
use Rattle.std.proofs.lemmas.List.{take_all}
use Rattle.std.proofs.lemmas.List.Elements.{All-head}
use Rattle.pb_words.specs.declared.signed.Sign.{Sign}
use Rattle.pb_words.specs.Numbers.{IsDigit}
use Rattle.pb_words.specs.Signed.{sign_text}
use Rattle.pb_words.specs.Cuts.{BeginsNoDigit}
use Rattle.pb_words.specs.Decimals.{Decimal, WritesDecimal, point_text, places_of}
use Rattle.pb_words.specs.Parts.{BeginsNoSign, ArePlaces}
use Rattle.pb_words.proofs.CutLemmas.{digits_cut_once}

first_and_rest : (xs : List ℕ) → 1 ≤ length xs → get_or xs 0 0 ≡ 46 → xs ≡ 46 ∷ take (length xs - 1) (drop 1 xs)
first_and_rest [] h e = absurd (omega arith)
first_and_rest (x ∷ xs) h e =
    ap (λ y. y ∷ xs) e ∙ ap (λ ys. 46 ∷ ys) (sym (take_all (length (x ∷ xs) - 1) xs (omega arith)))

-- the point and the digits after it
pub places_found : (rest : List ℕ) → 1 ≤ length rest → get_or rest 0 0 ≡ 46 → All IsDigit (take (length rest - 1) (drop 1 rest)) → length (take (length rest - 1) (drop 1 rest)) ≤ 9 → ArePlaces rest (take (length rest - 1) (drop 1 rest))
places_found rest h e digits nine =
    record {
      after_point = Some (take (length rest - 1) (drop 1 rest));
      same = refl;
      printed = first_and_rest rest h e;
      digits = digits;
      nine = nine;
    }

pub point_begins_no_digit : (p : Option (List ℕ)) → BeginsNoDigit (point_text p)
point_begins_no_digit None = tt
point_begins_no_digit (Some ds) = λ h. omega (arith, h.0)

pub unsigned_begins_no_sign : (w : List ℕ) (p : Option (List ℕ)) → All IsDigit w → BeginsNoSign (w ++ point_text p)
unsigned_begins_no_sign [] None a = tt
unsigned_begins_no_sign [] (Some ds) a = (λ e. omega (arith, e), λ e. omega (arith, e))
unsigned_begins_no_sign (b ∷ w) p a =
    let h : IsDigit b = All-head IsDigit b w a in
    (λ e. omega (arith, h.0, e), λ e. omega (arith, h.0, e))

-- a point and places are read in one way
pub point_once : (p q : Option (List ℕ)) → point_text p ≡ point_text q → p ≡ q
point_once None None e = refl
point_once None (Some qs) e = cc
point_once (Some ps) None e = cc
point_once (Some ps) (Some qs) e = let same : ps ≡ qs = cc in ap Some same

-- each decimal that the text writes has this sign, these whole digits, and this after them
pub record Agrees (d : Decimal) (sign : Sign) (whole rest : List ℕ) : Type 0 where
  pub sign_same : d.sign ≡ sign
  pub whole_same : d.whole ≡ whole
  pub rest_same : point_text d.after_point ≡ rest

module _ (text unsigned whole rest : List ℕ) (sign : Sign) (only : (s : Sign) (r : List ℕ) → text ≡ sign_text s ++ r → BeginsNoSign r → (s ≡ sign) × (r ≡ unsigned)) (cut : unsigned ≡ whole ++ rest) (digits : All IsDigit whole) (end : BeginsNoDigit rest) where
  agrees : (d : Decimal) → WritesDecimal text d → Agrees d sign whole rest
  agrees d w =
      let by_sign = only d.sign (d.whole ++ point_text d.after_point) w.printed (unsigned_begins_no_sign d.whole d.after_point w.grammar.whole) in
      let by_digits = digits_cut_once d.whole whole (point_text d.after_point) rest w.grammar.whole digits (point_begins_no_digit d.after_point) end (by_sign.1 ∙ cut) in
      record { sign_same = by_sign.0; whole_same = by_digits.0; rest_same = by_digits.1 }

  pub none_by_places : ((p : List ℕ) → ¬ (ArePlaces rest p)) → (d : Decimal) → ¬ (WritesDecimal text d)
  none_by_places none d w =
      none (places_of d.after_point)
      (record {
        after_point = d.after_point;
        same = refl;
        printed = sym (agrees d w).rest_same;
        digits = w.grammar.places;
        nine = w.grammar.nine;
      })

  pub none_by_length : (places : List ℕ) → ArePlaces rest places → length whole + length places ≤ 0 → (d : Decimal) → ¬ (WritesDecimal text d)
  none_by_length places a empty d w =
      let g = agrees d w in
      let point : d.after_point ≡ a.after_point = point_once d.after_point a.after_point (g.rest_same ∙ a.printed) in
      let same : places_of d.after_point ≡ places = ap places_of point ∙ a.same in
      omega (arith, w.grammar.some, ap length g.whole_same, ap length same)
