-- The places after the point: one place at a time, and their digits as a number.
use Rattle.std.proofs.Common.{◌≡◌, ℕ, zero, suc, ◌+◌, ◌-◌, ◌/◌, ◌%◌, ◌^◌, ◌<◌, ◌≤◌, List, [], ◌∷◌, ◌++◌, length, replicate, append_assoc, length-append, sym, ap, ◌∙◌, refl, arith}
use Rattle.std.proofs.Math.Nat.{pow-suc, div-lt_iff_lt-mul}
use Rattle.std.proofs.lemmas.Bool.Decides.{nat_tests}
use Rattle.std.proofs.lemmas.List.{length-replicate}
use Rattle.pb_words.specs.Decimals.{places, nine_places}

-- no places where nothing is left
pub places_none : (k : ℕ) → places k 0 ≡ []
unfolding places
places_none zero = refl
places_none (suc k) = refl

pub places_zero : (n : ℕ) → places zero n ≡ []
unfolding places
places_zero n = refl

-- one place
pub places_more : (k n : ℕ) → 0 < n → places (suc k) n ≡ (48 + n / 10 ^ k) ∷ places k (n % 10 ^ k)
unfolding places
places_more k n h = grind (arith, nat_tests)

pub ten_pow_pos : (k : ℕ) → 0 < 10 ^ k
ten_pow_pos zero = omega arith
ten_pow_pos (suc k) = omega (arith, pow-suc 10 k, ten_pow_pos k)

-- what the loop knows after one more place
pub record Step (j rest unit : ℕ) : Type 0 where
  pub unit_some : 0 < unit
  pub digit : rest / unit < 10
  pub less : rest % unit < 10 ^ (9 - (j + 1))
  pub next : unit / 10 ≡ 10 ^ (9 - (j + 1)) / 10
  pub more : places (9 - j) rest ≡ (48 + rest / unit) ∷ places (9 - (j + 1)) (rest % unit)

pub step_at : (k rest : ℕ) → rest < 10 ^ suc k → (rest / 10 ^ k < 10) × (rest % 10 ^ k < 10 ^ k)
step_at k rest b =
    let p : 0 < 10 ^ k = ten_pow_pos k in
    ((div-lt_iff_lt-mul p).1 (omega (arith, pow-suc 10 k)), omega arith)

ten_pow_less : (k : ℕ) → 10 ^ suc k / 10 ≡ 10 ^ k
ten_pow_less k = omega (arith, pow-suc 10 k)

pub place_step : (j rest unit : ℕ) → j < 9 → 0 < rest → rest < 10 ^ (9 - j) → unit ≡ 10 ^ (9 - j) / 10 → Step j rest unit
place_step j rest unit h p b u =
    let k : ℕ = 9 - (j + 1) in
    let e : 9 - j ≡ suc k = omega arith in
    let b' : rest < 10 ^ suc k = rw e at b in
    let v : unit ≡ 10 ^ k = u ∙ ap (λ x. 10 ^ x / 10) e ∙ ten_pow_less k in
    let s = step_at k rest b' in
    let more : places (9 - j) rest ≡ (48 + rest / unit) ∷ places k (rest % unit) = ap (λ x. places x rest) e ∙ places_more k rest p ∙ ap (λ x. (48 + rest / x) ∷ places k (rest % x)) (sym v) in
    record {
      unit_some = omega (arith, v, ten_pow_pos k);
      digit = rw v s.0;
      less = rw v s.1;
      next = ap (λ x. x / 10) v;
      more = more;
    }

-- after nine places nothing is left
pub places_end : (j rest : ℕ) → 9 ≤ j → places (9 - j) rest ≡ []
places_end j rest h =
    let e : 9 - j ≡ 0 = omega arith in
    ap (λ k. places k rest) e ∙ places_zero rest

-- one byte is moved from what is to come to what is written
pub pushed : (line new rest more all : List ℕ) (b : ℕ) → new ≡ line ++ b ∷ [] → rest ≡ b ∷ more → line ++ rest ≡ all → new ++ more ≡ all
pushed line new rest more all b e m h =
    ap (λ x. x ++ more) e ∙ append_assoc line (b ∷ []) more ∙ ap (λ x. line ++ x) (sym m) ∙ h

pub length-nine_places : (ds : List ℕ) → length ds ≤ 9 → length (nine_places ds) ≡ 9
length-nine_places ds h =
    omega (arith, length-append ds (replicate (9 - length ds) 48), length-replicate {A = ℕ} (9 - length ds) 48)
