-- The canonical text of a decimal: its sign and its length.
use Rattle.std.proofs.Common.{◌≡◌, ℕ, zero, suc, ◌*◌, ◌/◌, ◌%◌, ◌^◌, ◌<◌, ◌≤◌, true, false, List, [], ◌∷◌, ◌++◌, length, append-nil, length-append, ℤ, pos, negsuc, neg_ℤ, ◌*ℤ◌, unsigned_abs, int_lt, decimal, sym, ap, ◌∙◌, refl, arith}
use Rattle.std.specs.Fmt.{signed_decimal}
use Rattle.std.proofs.Math.IntN.{negsuc-*ℤ-pos}
use Rattle.std.proofs.lemmas.Bool.Decides.{nat_tests}
use Rattle.std.proofs.lemmas.Fmt.{length-decimal-le_wide}
use Rattle.pb_words.specs.Decimals.{places, fraction, canonical, canonical_size}
use Rattle.pb_words.proofs.PlaceLemmas.{places_zero, places_none, places_more}

-- the whole digits of any decimal of 128 bits
pub whole_short : (n : ℕ) → n ≤ 2 ^ 127 → length (decimal (n / 10 ^ 9)) ≤ 30
whole_short n h = length-decimal-le_wide 30 (n / 10 ^ 9) (omega arith) (omega arith) (omega arith)

pub length-places : (k n : ℕ) → length (places k n) ≤ k
length-places zero n = omega (arith, ap length (places_zero n))
length-places (suc k) zero = rw (places_none (suc k)) (omega arith)
length-places (suc k) (suc n) =
    rw (places_more k (suc n) (omega arith)) (omega (arith, length-places k (suc n % 10 ^ k)))

pub fraction_more : (n : ℕ) → 0 < n → fraction n ≡ 46 ∷ places 9 n
fraction_more n h = grind (arith, nat_tests)

pub length-fraction : (n : ℕ) → length (fraction n) ≤ 10
length-fraction zero = omega arith
length-fraction (suc n) = rw (fraction_more (suc n) (omega arith)) (omega (arith, length-places 9 (suc n)))

pub length-canonical_size : (n : ℕ) → n ≤ 2 ^ 127 → length (canonical_size n) ≤ 40
length-canonical_size n h =
    omega (arith, length-append (decimal (n / 10 ^ 9)) (fraction (n % 10 ^ 9)), whole_short n h, length-fraction (n % 10 ^ 9))

pub canonical_below : (z : ℤ) → int_lt z (pos 0) ≡ true → canonical z ≡ 45 ∷ canonical_size (unsigned_abs z)
unfolding canonical
canonical_below (pos n) h = absurd (grind (arith, nat_tests))
canonical_below (negsuc n) h = refl

pub canonical_above : (z : ℤ) → int_lt z (pos 0) ≡ false → canonical z ≡ canonical_size (unsigned_abs z)
unfolding canonical
canonical_above (pos n) h = refl
canonical_above (negsuc n) h = cc

-- the sign and the size together
pub text_below : (z : ℤ) (n : ℕ) (start all : List ℕ) → int_lt z (pos 0) ≡ true → n ≡ unsigned_abs z → start ≡ 45 ∷ [] → all ≡ start ++ canonical_size n → all ≡ canonical z
text_below z n start all below size s e =
    e ∙ ap (λ x. x ++ canonical_size n) s ∙ ap (λ x. 45 ∷ canonical_size x) size ∙ sym (canonical_below z below)

pub text_above : (z : ℤ) (n : ℕ) (start all : List ℕ) → int_lt z (pos 0) ≡ false → n ≡ unsigned_abs z → start ≡ [] → all ≡ start ++ canonical_size n → all ≡ canonical z
text_above z n start all above size s e =
    e ∙ ap (λ x. x ++ canonical_size n) s ∙ ap canonical_size size ∙ sym (canonical_above z above)

-- a whole number has no point
size_whole : (n m : ℕ) → m ≡ n * 10 ^ 9 → canonical_size m ≡ decimal n
size_whole n m e =
    let whole : m / 10 ^ 9 ≡ n = omega arith in
    let none : m % 10 ^ 9 ≡ 0 = omega arith in
    ap (λ w. decimal w ++ fraction (m % 10 ^ 9)) whole ∙ ap (λ f. decimal n ++ fraction f) none ∙ append-nil (decimal n)

below_zero : (n m : ℕ) → 0 < m → m ≡ suc n * 10 ^ 9 → canonical (neg_ℤ (pos m)) ≡ 45 ∷ decimal (suc n)
unfolding canonical
below_zero n zero p e = absurd (omega arith)
below_zero n (suc m) p e = ap (λ x. 45 ∷ x) (size_whole (suc n) (suc m) e)

pub canonical_whole : (z : ℤ) → canonical (z *ℤ pos (10 ^ 9)) ≡ signed_decimal z
unfolding canonical
canonical_whole (pos n) = size_whole n (n * 10 ^ 9) refl
canonical_whole (negsuc n) =
    ap canonical (negsuc-*ℤ-pos n (10 ^ 9)) ∙ below_zero n (suc n * 10 ^ 9) (omega arith) refl
