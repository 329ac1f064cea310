-- Bits as a number.
use Rattle.std.proofs.Common.{◌≡◌, ℕ, zero, suc, ◌+◌, ◌*◌, ◌%◌, ◌^◌, ◌<◌, ◌≤◌, Bool, true, false, List, [], ◌∷◌, take, length, get_or, refl, subst, arith, lit<, Fits, w32, add-one}
use Rattle.std.proofs.Math.Nat.{pow-suc, pow-succ', mul_assoc, mul_comm}
use Rattle.std.proofs.Math.Pow.{pow_mono}
use Rattle.std.proofs.lemmas.Nat.{shl_whole}
use Rattle.std.proofs.lemmas.List.{length-take-le}
use mir.Val.{bool_byte}
use Rattle.pb_buses.specs.Buses.{number}
use Rattle.pb_buses.proofs.DelayLemmas.{digit}

-- so many bits are a number below that power of 2
number-below : (bits : List Bool) → number bits < 2 ^ length bits
unfolding number
number-below [] = lit< tt
number-below (true ∷ bits) = rw pow-succ' (omega (arith, number-below bits))
number-below (false ∷ bits) = rw pow-succ' (omega (arith, number-below bits))

-- the number of one more bit
number-more :
    (i : ℕ) (bits : List Bool) → i < length bits →
    number (take (suc i) bits) ≡ number (take i bits) + digit (get_or bits i false) * 2 ^ i
unfolding number
number-more i [] h = absurd (omega arith)
number-more zero (true ∷ bits) h = refl
number-more zero (false ∷ bits) h = refl
number-more (suc i) (b ∷ bits) h =
    let d = digit (get_or bits i false) in
    let e : number (take (suc i) bits) ≡ number (take i bits) + d * 2 ^ i = number-more i bits (omega arith) in
    let p : d * 2 ^ suc i ≡ 2 * (d * 2 ^ i) = rw pow-suc (rw (← mul_assoc) (mul_comm (d * 2 ^ i) 2)) in
    omega (arith, e, p)

digit_of : (b : Bool) → bool_byte b ≡ digit b
digit_of true = refl
digit_of false = refl

digit-small : (b : Bool) → digit b < 2 ^ 1
digit-small true = lit< tt
digit-small false = lit< tt

-- the same as the code computes it
module _ (bits : List Bool) (i word d : ℕ) (few : length bits ≤ 32) (within : i < length bits)
    (was : word ≡ number (take i bits)) (is : d ≡ bool_byte (get_or bits i false)) where
  pub word-more : word + d * 2 ^ i % 2 ^ 32 ≡ number (take (i + 1) bits)
  word-more =
      let short : 1 + i ≤ 32 = omega arith in
      rw (
        add-one i,
        number-more i bits within,
        was,
        is,
        digit_of (get_or bits i false),
        shl_whole (digit (get_or bits i false)) 1 i 32 (digit-small (get_or bits i false)) short,
      ) refl

  pub word-fits : Fits w32 (word + d * 2 ^ i % 2 ^ 32)
  word-fits =
      let n : length (take (i + 1) bits) ≡ i + 1 = length-take-le (i + 1) bits (omega arith) in
      let b : number (take (i + 1) bits) < 2 ^ (i + 1) = subst (λ (x : ℕ). number (take (i + 1) bits) < 2 ^ x) n (number-below (take (i + 1) bits)) in
      let short : i + 1 ≤ 32 = omega arith in
      let m : 2 ^ (i + 1) ≤ 2 ^ 32 = pow_mono short in
      record { fits = rw word-more (omega (arith, b, m)) }
