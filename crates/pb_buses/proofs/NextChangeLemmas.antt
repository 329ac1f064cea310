-- What is seen of an input that goes on to select the same value.
use Rattle.std.proofs.Common.{◌≡◌, ◌≢◌, ℕ, zero, suc, ◌+◌, ◌-◌, ◌<◌, ◌≤◌, Bool, true, false, not, List, ◌∷◌, ◌++◌, replicate, get_or, refl, ap, sym, ◌∙◌, arith, Some, None}
use Rattle.std.proofs.Math.Bool.{beq}
use Rattle.std.proofs.lemmas.List.{get_or-take}
use Rattle.pb_buses.specs.Delay.{BitInput, seen, shifted, latest, later, pushed, IsNextChange}
use Rattle.pb_buses.proofs.LineLemmas.{pushed-twice}

-- an entry of a list with so many of the same in front
fronted :
    (n e : ℕ) (v : Bool) (line : List Bool) →
    get_or (replicate n v ++ line) e false ≡ get_or (v ∷ line) (suc e - n) false
fronted zero e v line = let i : suc e - 0 ≡ suc e = omega arith in rw i refl
fronted (suc n) zero v line = let i : 1 - suc n ≡ 0 = omega arith in rw i refl
fronted (suc n) (suc e) v line =
    let i : suc (suc e) - suc n ≡ suc e - n = omega arith in rw i (fronted n e v line)

seen_at :
    (n d : ℕ) (v : Bool) (line : List Bool) → d ≤ 31 →
    get_or (v ∷ pushed line v n) d false ≡ get_or (v ∷ line) (d - n) false
unfolding pushed
seen_at n zero v line h = let i : 0 - n ≡ 0 = omega arith in rw i refl
seen_at n (suc e) v line h = get_or-take 31 (replicate n v ++ line) e false (omega arith) ∙ fronted n e v line

-- what is seen then was selected as many ticks later as pass
pub later_is :
    (input : BitInput) (v : Bool) (n : ℕ) → input.delay ≤ 31 →
    later input v n ≡ get_or (v ∷ input.line) (input.delay - n) false
later_is input v n h = seen_at n input.delay v input.line h

-- The next change, found place by place.

pub other_level : (a b : Bool) → not (beq a b) ≡ true → a ≢ b
other_level true true h = cc
other_level true false h = λ e. cc
other_level false true h = λ e. cc
other_level false false h = cc

pub at_last :
    (input : BitInput) (v was : Bool) (n : ℕ) → input.delay ≤ 31 → input.delay ≤ n → was ≡ seen input v →
    ((k : ℕ) → k ≤ n → get_or (v ∷ input.line) (input.delay - k) false ≡ was) → IsNextChange input v None
at_last input v was n h all e same k = later_is input v k h ∙ (by_place (input.delay - k) (omega arith) ∙ e)
  where
    by_place : (i : ℕ) → i ≤ input.delay → get_or (v ∷ input.line) i false ≡ was
    by_place i small =
        let j : input.delay - (input.delay - i) ≡ i = omega arith in
        let there = same (input.delay - i) (omega arith) in
        rw j at there

pub found :
    (input : BitInput) (v was other : Bool) (n : ℕ) → input.delay ≤ 31 → was ≡ seen input v →
    ((k : ℕ) → k ≤ n → get_or (v ∷ input.line) (input.delay - k) false ≡ was) →
    other ≡ get_or (v ∷ input.line) (input.delay - n - 1) false → other ≢ was → IsNextChange input v (Some (n + 1))
found input v was other n h e same is new = (
  omega arith,
  λ k below. later_is input v k h ∙ (same k (omega arith) ∙ e),
  λ equal.
      let i : input.delay - n - 1 ≡ input.delay - (n + 1) = omega arith in
      let there : other ≡ get_or (v ∷ input.line) (input.delay - (n + 1)) false =
      is ∙ ap (λ i. get_or (v ∷ input.line) i false) i in
      new (there ∙ (sym (later_is input v (n + 1) h) ∙ (equal ∙ sym e))),
)

-- Ticks in two parts.

pub later-twice :
    (input : BitInput) (v : Bool) (m n : ℕ) → later (shifted input v m) v n ≡ later input v (n + m)
later-twice input v m n = ap (λ line. get_or (v ∷ line) input.delay false) (pushed-twice input.line v m n)

-- the next change comes nearer
pub nearer :
    (input : BitInput) (v : Bool) (m n : ℕ) → 0 < n → IsNextChange input v (Some (n + m)) →
    IsNextChange (shifted input v m) v (Some n)
nearer input v m n some is = (
  some,
  λ k below. later-twice input v m k ∙ (is.1 (k + m) (omega arith) ∙ sym (is.1 m (omega arith))),
  λ equal. is.2 (sym (later-twice input v m n) ∙ (equal ∙ is.1 m (omega arith))),
)

pub still_none :
    (input : BitInput) (v : Bool) (m : ℕ) → IsNextChange input v None → IsNextChange (shifted input v m) v None
still_none input v m is k = later-twice input v m k ∙ (is (k + m) ∙ sym (is m))

pub latest_is : (input : BitInput) (v : Bool) (n : ℕ) → 0 < n → latest (shifted input v n) ≡ v
unfolding pushed
latest_is input v zero h = absurd (omega arith)
latest_is input v (suc n) h = refl
