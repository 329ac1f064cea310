-- The places after the point are digits, and write the number that they are of.
use Rattle.std.proofs.Common.{◌≡◌, ℕ, zero, suc, ◌+◌, ◌-◌, ◌*◌, ◌/◌, ◌%◌, ◌^◌, ◌<◌, ◌≤◌, List, [], ◌++◌, length, replicate, All, Option, Some, None, sym, ap, ◌∙◌, refl, arith}
use Rattle.std.proofs.Math.Nat.{pow-suc, div-add-mod}
use Rattle.std.proofs.lemmas.List.Elements.{All-cons, All-nil}
use Rattle.pb_words.specs.Numbers.{IsDigit, value_of, value_after}
use Rattle.pb_words.specs.Decimals.{places, nine_places, places_of, point_text, fraction}
use Rattle.pb_words.proofs.PlaceLemmas.{places_zero, places_none, places_more, step_at}
use Rattle.pb_words.proofs.CanonicalLemmas.{length-places, fraction_more}

places_digits : (k n : ℕ) → n < 10 ^ k → All IsDigit (places k n)
places_digits zero n h = rw (places_zero n) (All-nil IsDigit)
places_digits (suc k) zero h = rw (places_none (suc k)) (All-nil IsDigit)
places_digits (suc k) (suc n) h =
    let s = step_at k (suc n) h in
    rw (places_more k (suc n) (omega arith))
    (All-cons IsDigit (48 + suc n / 10 ^ k) (places k (suc n % 10 ^ k)) (omega arith, omega (arith, s.0)) (places_digits k (suc n % 10 ^ k) s.1))

zero_more : (a p : ℕ) → (10 * a + 0) * p ≡ a * (p * 10)
zero_more a p = omega arith

-- zeros only move the digits before them
zeros_value : (j a : ℕ) → value_after a (replicate j 48) ≡ a * 10 ^ j
zeros_value zero a = omega arith
zeros_value (suc j) a =
    zeros_value j (10 * a + (48 - 48)) ∙ zero_more a (10 ^ j) ∙ ap (λ p. a * p) (sym (pow-suc 10 j))

one_more : (a q r p n : ℕ) → n ≡ q * p + r → (10 * a + q) * p + r ≡ a * (p * 10) + n
one_more a q r p n e = omega (arith, e)

places_value : (k n a m : ℕ) → n < 10 ^ k → m + length (places k n) ≡ k → value_after a (places k n ++ replicate m 48) ≡ a * 10 ^ k + n
places_value zero n a m h e =
    let none : m ≡ 0 = omega arith in
    let last : a ≡ a * 10 ^ 0 + n = omega arith in
    ap (λ j. value_after a (places zero n ++ replicate j 48)) none ∙ ap (λ xs. value_after a (xs ++ [])) (places_zero n) ∙ last
places_value (suc k) zero a m h e =
    let all : m ≡ suc k = omega (arith, ap length (places_none (suc k))) in
    let last : a * 10 ^ suc k ≡ a * 10 ^ suc k + 0 = omega arith in
    ap (λ xs. value_after a (xs ++ replicate m 48)) (places_none (suc k)) ∙ zeros_value m a ∙ ap (λ j. a * 10 ^ j) all ∙ last
places_value (suc k) (suc n) a m h e =
    let q : ℕ = suc n / 10 ^ k in
    let r : ℕ = suc n % 10 ^ k in
    let more = places_more k (suc n) (omega arith) in
    let fewer : m + length (places k r) ≡ k = omega (arith, ap length more) in
    let digit : 48 + q - 48 ≡ q = omega arith in
    let parts : suc n ≡ q * 10 ^ k + r = omega (arith, div-add-mod (suc n) (10 ^ k)) in
    ap (λ xs. value_after a (xs ++ replicate m 48)) more
    ∙ ap (λ d. value_after (10 * a + d) (places k r ++ replicate m 48)) digit
    ∙ places_value k r (10 * a + q) m (step_at k (suc n) h).1 fewer
    ∙ one_more a q r (10 ^ k) (suc n) parts
    ∙ ap (λ p. a * p + suc n) (sym (pow-suc 10 k))

nine_value : (n : ℕ) → n < 10 ^ 9 → value_of (nine_places (places 9 n)) ≡ n
nine_value n h =
    let last : 0 * 10 ^ 9 + n ≡ n = omega arith in
    places_value 9 n 0 (9 - length (places 9 n)) h (omega (arith, length-places 9 n)) ∙ last

-- a point and places that write that many billionths
pub record Point (n : ℕ) : Type 0 where
  pub point : Option (List ℕ)
  pub printed : point_text point ≡ fraction n
  pub digits : All IsDigit (places_of point)
  pub nine : length (places_of point) ≤ 9
  pub value : value_of (nine_places (places_of point)) ≡ n

pub point_of : (n : ℕ) → n < 10 ^ 9 → Point n
point_of zero h =
    record { point = None; printed = refl; digits = All-nil IsDigit; nine = omega arith; value = refl }
point_of (suc n) h =
    record {
      point = Some (places 9 (suc n));
      printed = sym (fraction_more (suc n) (omega arith));
      digits = places_digits 9 (suc n) h;
      nine = length-places 9 (suc n);
      value = nine_value (suc n) h;
    }
