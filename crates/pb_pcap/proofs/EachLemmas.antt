-- Two lists joined place by place, as a loop does it.
use Rattle.std.proofs.Common.{◌≡◌, ℕ, zero, suc, ◌+◌, ◌<◌, ℤ, pos, List, [], ◌∷◌, length, set, get_or, refl, ap, arith}
use Rattle.pb_pcap.specs.Each.{each}

-- the first list, of which the places from this one on have still to be joined
pub joined_from : (ℤ → ℤ → ℤ) → ℕ → List ℤ → List ℤ → List ℤ
joined_from f zero xs ys = each f xs ys
joined_from f (suc i) [] ys = []
joined_from f (suc i) (x ∷ xs) [] = x ∷ xs
joined_from f (suc i) (x ∷ xs) (y ∷ ys) = x ∷ joined_from f i xs ys

module _ (f : ℤ → ℤ → ℤ) where
  pub joined_none : (xs ys : List ℤ) → joined_from f 0 xs ys ≡ each f xs ys
  unfolding joined_from
  joined_none xs ys = refl

  -- one more place
  pub joined_more :
      (i : ℕ) (xs ys : List ℤ) (x : ℤ) → i < length xs → i < length ys → x ≡ f (get_or xs i (pos 0)) (get_or ys i (pos 0)) →
      joined_from f (i + 1) (set xs i x) ys ≡ joined_from f i xs ys
  unfolding joined_from
  joined_more i [] ys x p q e = absurd (omega arith)
  joined_more i (z ∷ xs) [] x p q e = absurd (omega arith)
  joined_more zero (z ∷ xs) (y ∷ ys) x p q e = ap (λ v. v ∷ each f xs ys) e
  joined_more (suc i) (z ∷ xs) (y ∷ ys) x p q e =
      let later : suc i + 1 ≡ suc (i + 1) = omega arith in
      rw later (ap (λ l. z ∷ l) (joined_more i xs ys x (omega arith) (omega arith) e))

  -- all places
  pub joined_all : (i : ℕ) (xs ys : List ℤ) → length xs ≡ i → length ys ≡ i → joined_from f i xs ys ≡ xs
  unfolding joined_from
  joined_all zero [] ys p q = refl
  joined_all zero (x ∷ xs) ys p q = absurd (omega arith)
  joined_all (suc i) [] ys p q = refl
  joined_all (suc i) (x ∷ xs) [] p q = refl
  joined_all (suc i) (x ∷ xs) (y ∷ ys) p q = ap (λ l. x ∷ l) (joined_all i xs ys (omega arith) (omega arith))
