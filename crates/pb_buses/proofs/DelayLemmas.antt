-- The delay line as a word: its digits are the line.
use Rattle.std.proofs.Common.{◌≡◌, ℕ, zero, suc, ◌+◌, ◌-◌, ◌*◌, ◌/◌, ◌%◌, ◌^◌, ◌<◌, ◌≤◌, ◌==◌, min, Bool, true, false, List, [], ◌∷◌, ◌++◌, take, replicate, get_or, refl, ap, sym, ◌∙◌, bit_and, arith, add-one, mul-one, add-zero, lit≤, if◌then◌else◌}
use Rattle.std.proofs.Math.Nat.{pow-suc, pow-succ', mul_assoc, mul_comm, zero-min, suc-min-suc}
use Rattle.std.proofs.lemmas.Nat.{pow_pos, mod-pow-add, and_mask, shl_whole}
use Rattle.std.specs.Int.{bit_at}
use Rattle.std.proofs.lemmas.Nat.Bits.{bit_at_lowest, bit_at-suc, shr_and_one}
use mir.Val.{bool_byte}
use Rattle.pb_buses.specs.Delay.{digits, pushed}

-- a digit as a number
abbrev pub digit : Bool → ℕ
digit b = if b then 1 else 0

-- so many of the same digit, as a number
abbrev pub fill : Bool → ℕ → ℕ
fill b n = if b then 2 ^ n - 1 else 0

half : (w : ℕ) (b : Bool) → (2 * w + digit b) / 2 ≡ w
half w true = omega arith
half w false = omega arith

lowest : (w : ℕ) (b : Bool) → ((2 * w + digit b) % 2 == 1) ≡ b
lowest w true = let e : (2 * w + 1) % 2 ≡ 1 = omega arith in rw e refl
lowest w false = let e : (2 * w + 0) % 2 ≡ 0 = omega arith in rw e refl

-- one more digit
pub digits-more : (k w : ℕ) (b : Bool) → digits (suc k) (2 * w + digit b) ≡ b ∷ digits k w
unfolding digits
digits-more k w b = rw (lowest w b, half w b) refl

-- a digit of a word
pub digits-at : (k w i : ℕ) → i < k → get_or (digits k w) i false ≡ (bit_at w i == 1)
unfolding digits
digits-at zero w i h = absurd (omega arith)
digits-at (suc k) w zero h = rw bit_at_lowest refl
digits-at (suc k) w (suc i) h = rw bit_at-suc (digits-at k (w / 2) i (omega arith))

-- what a delay of this many ticks shows
pub seen_digit : (w d : ℕ) (now : Bool) → d ≤ 31 → (bit_at (2 * w + digit now) d == 1) ≡ get_or (now ∷ digits 31 w) d false
seen_digit w d now h =
    let e : digits 32 (2 * w + digit now) ≡ now ∷ digits 31 w = digits-more 31 w now in
    rw (← e) (sym (digits-at 32 (2 * w + digit now) d (omega arith)))

-- fewer digits
digits-fewer : (k m w : ℕ) → k ≤ m → take k (digits m w) ≡ digits k w
unfolding digits
digits-fewer zero m w h = refl
digits-fewer (suc k) zero w h = absurd (omega arith)
digits-fewer (suc k) (suc m) w h = ap (λ xs. (w % 2 == 1) ∷ xs) (digits-fewer k m (w / 2) (omega arith))

digits-none : (w : ℕ) → digits 0 w ≡ []
unfolding digits
digits-none w = refl

fill-suc : (n : ℕ) (b : Bool) → fill b (suc n) ≡ 2 * fill b n + digit b
fill-suc n true = let p : 0 < 2 ^ n = pow_pos n in rw pow-succ' (omega arith)
fill-suc n false = refl

filled-suc : (n w : ℕ) (b : Bool) → w * 2 ^ suc n + fill b (suc n) ≡ 2 * (w * 2 ^ n + fill b n) + digit b
filled-suc n w b =
    let e : w * 2 ^ suc n ≡ 2 * (w * 2 ^ n) = rw pow-suc (rw (← mul_assoc) (mul_comm (w * 2 ^ n) 2)) in
    omega (arith, e, fill-suc n b)

-- the word moved up by n, with n of the same digit below
pub digits-filled :
    (k m n w : ℕ) (b : Bool) → k ≤ m → digits k (w * 2 ^ n + fill b n) ≡ take k (replicate n b ++ digits m w)
digits-filled k m zero w true h = rw (mul-one, add-zero) (sym (digits-fewer k m w h))
digits-filled k m zero w false h = rw (mul-one, add-zero) (sym (digits-fewer k m w h))
digits-filled zero m (suc n) w b h = digits-none (w * 2 ^ suc n + fill b (suc n))
digits-filled (suc k) m (suc n) w b h =
    rw (filled-suc n w b)
    (digits-more k (w * 2 ^ n + fill b n) b ∙ ap (λ xs. b ∷ xs) (digits-filled k m n w b (omega arith)))

mod-suc : (m w : ℕ) → w % 2 ^ suc m ≡ 2 * (w / 2 % 2 ^ m) + w % 2
mod-suc m w =
    rw (← add-one m) (mod-pow-add w m 1 ∙ ap (λ x. x + w % 2) (mul_comm (w / 2 % 2 ^ m) 2))

-- the low digits stay when the others go
pub digits-mod : (k m w : ℕ) → k ≤ m → digits k (w % 2 ^ m) ≡ digits k w
unfolding digits
digits-mod zero m w h = refl
digits-mod (suc k) zero w h = absurd (omega arith)
digits-mod (suc k) (suc m) w h =
    let low : (2 * (w / 2 % 2 ^ m) + w % 2) % 2 ≡ w % 2 = omega arith in
    let high : (2 * (w / 2 % 2 ^ m) + w % 2) / 2 ≡ w / 2 % 2 ^ m = omega arith in
    rw (mod-suc m w, low, high) (ap (λ xs. (w % 2 == 1) ∷ xs) (digits-mod k m (w / 2) (omega arith)))

-- more of the same than fit change nothing
pub take-capped :
    (k n : ℕ) (b : Bool) (xs : List Bool) → take k (replicate (min n k) b ++ xs) ≡ take k (replicate n b ++ xs)
take-capped zero n b xs = refl
take-capped (suc k) zero b xs = rw zero-min refl
take-capped (suc k) (suc n) b xs = rw suc-min-suc (ap (λ ys. b ∷ ys) (take-capped k n b xs))

-- the word of a line so many ticks later
pub word_pushed :
    (w n : ℕ) (b : Bool) →
    digits 31 ((w * 2 ^ min n 31 + fill b (min n 31)) % 2 ^ 32) ≡ pushed (digits 31 w) b n
unfolding pushed
word_pushed w n b =
    digits-mod 31 32 (w * 2 ^ min n 31 + fill b (min n 31)) (lit≤ tt)
    ∙ digits-filled 31 31 (min n 31) w b (lit≤ tt)
    ∙ take-capped 31 n b (digits 31 w)

-- the same as the code computes it
pub word_later :
    (w t n f : ℕ) (b : Bool) → w < 2 ^ 32 → t ≡ min n 31 → f ≡ fill b t →
    digits 31 (bit_and (w * 2 ^ t % 2 ^ 64 + f) (2 ^ 32 - 1)) ≡ pushed (digits 31 w) b n
word_later w t n f b small e g =
    let within : 32 + t ≤ 64 = omega arith in
    rw (and_mask (w * 2 ^ t % 2 ^ 64 + f) 32, shl_whole w 32 t 64 small within, g, e) (word_pushed w n b)

-- what a delay of this many ticks shows, as the code computes it
pub digit_seen :
    (w d : ℕ) (now : Bool) → d ≤ 31 →
    (bit_and ((2 * w + bool_byte now) / 2 ^ d) 1 == 1) ≡ get_or (now ∷ digits 31 w) d false
digit_seen w d true h = rw shr_and_one (seen_digit w d true h)
digit_seen w d false h = rw shr_and_one (seen_digit w d false h)

-- the word of a line one tick later
pub word_one : (w : ℕ) (b : Bool) → digits 31 ((2 * w + digit b) % 2 ^ 32) ≡ pushed (digits 31 w) b 1
unfolding pushed
word_one w b =
    digits-mod 31 32 (2 * w + digit b) (lit≤ tt)
    ∙ (digits-more 30 w b ∙ ap (λ xs. b ∷ xs) (sym (digits-fewer 30 31 w (lit≤ tt))))

-- the same as the code computes it
pub word_next :
    (w : ℕ) (b : Bool) → digits 31 (bit_and (2 * w + bool_byte b) (2 ^ 32 - 1)) ≡ pushed (digits 31 w) b 1
word_next w true = rw (and_mask (2 * w + 1) 32) (word_one w true)
word_next w false = rw (and_mask (2 * w + 0) 32) (word_one w false)
