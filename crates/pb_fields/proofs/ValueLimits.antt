-- How large a decimal of few digits is.
use Rattle.std.proofs.Common.{◌≡◌, ℕ, zero, suc, ◌+◌, ◌-◌, ◌*◌, ◌^◌, ◌<◌, ◌≤◌, List, [], ◌∷◌, length, replicate, All, unsigned_abs, ap, arith, refl}
use Rattle.std.proofs.Math.Nat.{pow-suc, pow-le-pow_right}
use Rattle.std.proofs.lemmas.List.Elements.{All-head, All-tail, All-append, All-cons, All-nil}
use Rattle.pb_words.specs.declared.signed.Sign.{Sign}
use Rattle.pb_words.specs.declared.signed.Sign.TheVariants as signs
use Rattle.pb_words.specs.Numbers.{IsDigit, value_of, value_after}
use Rattle.pb_words.specs.Signed.{signed}
use Rattle.pb_words.specs.Decimals.{Decimal, IsDecimal, decimal_value, nine_places, places_of}
use Rattle.pb_words.proofs.PlaceLemmas.{length-nine_places}

step : (n d p m : ℕ) → d < 10 → m < (10 * n + d + 1) * p → m < (n + 1) * (p * 10)
step n d p m h e = let q : d * p ≤ 9 * p = grind arith in omega (arith, q, e)

-- digits after those of n
pub value_after-lt : (ds : List ℕ) (n : ℕ) → All IsDigit ds → value_after n ds < (n + 1) * 10 ^ length ds
value_after-lt [] n a = omega arith
value_after-lt (b ∷ ds) n a =
    let h : IsDigit b = All-head IsDigit b ds a in
    let s = step n (b - 48) (10 ^ length ds) (value_after (10 * n + (b - 48)) ds) (omega (arith, h.1)) (value_after-lt ds (10 * n + (b - 48)) (All-tail IsDigit b ds a)) in
    omega (arith, s, ap (λ p. (n + 1) * p) (pow-suc 10 (length ds)))

zeros_digits : (k : ℕ) → All IsDigit (replicate k 48)
zeros_digits zero = All-nil IsDigit
zeros_digits (suc k) = All-cons IsDigit 48 (replicate k 48) (omega arith, omega arith) (zeros_digits k)

unsigned_abs-signed : (s : Sign) (n : ℕ) → unsigned_abs (signed s n) ≡ n
unsigned_abs-signed signs.Absent n = refl
unsigned_abs-signed signs.Plus n = refl
unsigned_abs-signed signs.Minus zero = refl
unsigned_abs-signed signs.Minus (suc n) = refl

-- a decimal with at most 9 whole digits
pub short_value : (d : Decimal) → IsDecimal d → length d.whole ≤ 9 → unsigned_abs (decimal_value d) < 10 ^ 18
short_value d g few =
    let whole = value_after-lt d.whole 0 g.whole in
    let nine = value_after-lt (nine_places (places_of d.after_point)) 0 (All-append IsDigit (places_of d.after_point) _ g.places (zeros_digits (9 - length (places_of d.after_point)))) in
    let whole_pow : 10 ^ length d.whole ≤ 10 ^ 9 = pow-le-pow_right {n = 10} (omega arith) {i = length d.whole} {j = 9} few in
    let nine_pow : 10 ^ length (nine_places (places_of d.after_point)) ≡ 10 ^ 9 = ap (λ k. 10 ^ k) (length-nine_places (places_of d.after_point) g.nine) in
    omega (arith, unsigned_abs-signed d.sign (value_of d.whole * 10 ^ 9 + value_of (nine_places (places_of d.after_point))), whole, nine, whole_pow, nine_pow)
