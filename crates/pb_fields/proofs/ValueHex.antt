-- The hexadecimal text of a number sets a lookup table to the number.
use Rattle.std.proofs.Common.{◌≡◌, ◌≢◌, ℕ, ◌+◌, ◌*◌, ◌/◌, ◌%◌, ◌^◌, ◌<◌, List, [], ◌∷◌, map, All, inl, sym, ap, ◌∙◌, refl, arith}
use Rattle.std.specs.Char.{digit_value}
use Rattle.std.specs.Str.Parse.{digits_value}
use Rattle.std.proofs.Math.Nat.{div-div-eq-div-mul}
use Rattle.std.proofs.lemmas.Bool.{ne_eqb}
use Rattle.std.proofs.lemmas.Bool.Decides.{nat_tests}
use Rattle.std.proofs.lemmas.List.Elements.{All-cons, All-nil, All-head, All-tail}
use Rattle.pb_words.specs.Hex.{hex_digit, hex_digit_at, hex_text}
use Rattle.pb_words.specs.Cuts.{without_spaces}
use Rattle.pb_lut.specs.Functions.{WritesFunction}

-- the value of a digit
hex_value : (m : ℕ) → m < 16 → digit_value (hex_digit m) ≡ m
hex_value m h = grind (arith, nat_tests)

hex_no_space : (m : ℕ) → hex_digit m ≢ 32
hex_no_space m e = grind (arith, nat_tests)

-- nothing is taken out where there is no space
kept : (xs : List ℕ) → All (λ b. b ≢ 32) xs → without_spaces xs ≡ xs
kept [] a = refl
kept (b ∷ xs) a =
    let head : b ≢ 32 = All-head (λ b. b ≢ 32) b xs a in
    rw (ne_eqb b 32 head) (ap (λ ys. b ∷ ys) (kept xs (All-tail (λ b. b ≢ 32) b xs a)))

-- one digit more: q is the weight of the digit, and r that of the one before it
one_more : (n v d q r : ℕ) → v ≡ n / r → r ≡ q * 16 → d ≡ n / q % 16 → v * 16 + d ≡ n / q
one_more n v d q r e w f =
    let apart : n / q / 16 ≡ n / r = div-div-eq-div-mul n q 16 ∙ ap (λ x. n / x) (sym w) in
    omega (arith, e, f, apart)

digit_at : (n place : ℕ) → digit_value (hex_digit_at n place) ≡ n / 2 ^ (4 * place) % 16
digit_at n place = hex_value (n / 2 ^ (4 * place) % 16) (omega arith)

first : (n d : ℕ) → n < 2 ^ 32 → d ≡ n / 2 ^ 28 % 16 → 0 + d ≡ n / 2 ^ 28
first n d h e = omega arith

whole : (n : ℕ) → n / 1 ≡ n
whole n = omega arith

eight_places : List ℕ
eight_places = 7 ∷ 6 ∷ 5 ∷ 4 ∷ 3 ∷ 2 ∷ 1 ∷ 0 ∷ []

hex_digits : ℕ → List ℕ
hex_digits n = map (hex_digit_at n) eight_places

digits_of_number : (n : ℕ) → n < 2 ^ 32 → digits_value 16 (hex_digits n) ≡ n
unfolding hex_digits eight_places
digits_of_number n h =
    let a7 : 0 + digit_value (hex_digit_at n 7) ≡ n / 2 ^ 28 = first n (digit_value (hex_digit_at n 7)) h (digit_at n 7) in
    let a6 = one_more n (0 + digit_value (hex_digit_at n 7)) (digit_value (hex_digit_at n 6)) (2 ^ 24) (2 ^ 28) a7 refl (digit_at n 6) in
    let a5 = one_more n _ (digit_value (hex_digit_at n 5)) (2 ^ 20) (2 ^ 24) a6 refl (digit_at n 5) in
    let a4 = one_more n _ (digit_value (hex_digit_at n 4)) (2 ^ 16) (2 ^ 20) a5 refl (digit_at n 4) in
    let a3 = one_more n _ (digit_value (hex_digit_at n 3)) (2 ^ 12) (2 ^ 16) a4 refl (digit_at n 3) in
    let a2 = one_more n _ (digit_value (hex_digit_at n 2)) (2 ^ 8) (2 ^ 12) a3 refl (digit_at n 2) in
    let a1 = one_more n _ (digit_value (hex_digit_at n 1)) (2 ^ 4) (2 ^ 8) a2 refl (digit_at n 1) in
    let a0 = one_more n _ (digit_value (hex_digit_at n 0)) 1 (2 ^ 4) a1 refl (digit_at n 0) in
    a0 ∙ whole n

each_at : (n : ℕ) (places : List ℕ) → All (λ c. digit_value c < 16) (map (hex_digit_at n) places)
each_at n [] = All-nil (λ c. digit_value c < 16)
each_at n (p ∷ ps) =
    let e = digit_at n p in
    All-cons (λ c. digit_value c < 16) (hex_digit_at n p) (map (hex_digit_at n) ps) (omega arith) (each_at n ps)

no_space_at : (n : ℕ) (places : List ℕ) → All (λ b. b ≢ 32) (map (hex_digit_at n) places)
no_space_at n [] = All-nil (λ b. b ≢ 32)
no_space_at n (p ∷ ps) =
    All-cons (λ b. b ≢ 32) (hex_digit_at n p) (map (hex_digit_at n) ps) (hex_no_space (n / 2 ^ (4 * p) % 16)) (no_space_at n ps)

pub hex_writes : (n : ℕ) → n < 2 ^ 32 → WritesFunction (hex_text n) n
unfolding hex_text hex_digits eight_places
hex_writes n h =
    let P : ℕ → Type 0 = λ b. b ≢ 32 in
    record {
      short = omega arith;
      written = inl (record {
        digits = hex_digits n;
        written = kept (hex_text n) (All-cons P 48 (120 ∷ hex_digits n) (λ e. omega (arith, e)) (All-cons P 120 (hex_digits n) (λ e. omega (arith, e)) (no_space_at n eight_places)));
        value = record {
          some = omega arith;
          few = omega arith;
          each = each_at n eight_places;
          value = digits_of_number n h;
        };
      });
    }
