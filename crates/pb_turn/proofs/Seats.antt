-- The views of all seats, and one of them changed.
use Rattle.std.proofs.Common.{◌≡◌, ℕ, zero, suc, ◌+◌, ◌≤◌, ◌≢◌, List, [], ◌∷◌, set, refl, sym, ap, ◌∙◌, subst, ⊎_elim, arith}
use Rattle.std.specs.List.{sum_by}
use mathlib.Core.Option.{some, some-injective, some-ne-none}
use lib.ListN.{get_elem?}
use Rattle.atomic_table.proofs.Lists.{at_set}
use Rattle.std.proofs.lemmas.List.Sums.{sum_by-cons}

module _ {A : Type 0} where
  -- what holds of the changed one and of all others holds of all
  pub each_after : (P : ℕ → A → Type 0) (l : List A) (i : ℕ) (w : A) → P i w → ((j : ℕ) (v : A) → j ≢ i → get_elem? l j ≡ some v → P j v) → (j : ℕ) (v : A) → get_elem? (set l i w) j ≡ some v → P j v
  each_after P l i w own others j v at = ⊎_elim
      (λ (t : (j ≡ i) × (w ≡ v)). subst (λ (k : ℕ). P k v) (sym t.0) (subst (P i) t.1 own))
      (λ (t : (j ≢ i) × (get_elem? l j ≡ some v)). others j v t.0 t.1)
      (at_set l i j w v at)

  pub set_there : (l : List A) (i : ℕ) (v w : A) → get_elem? l i ≡ some v → get_elem? (set l i w) i ≡ some w
  set_there [] i v w at = absurd (some-ne-none v (sym at))
  set_there (x ∷ xs) zero v w at = refl
  set_there (x ∷ xs) (suc i) v w at = set_there xs i v w at

  pub one_view : (l : List A) (i : ℕ) (v w : A) → get_elem? l i ≡ some v → get_elem? l i ≡ some w → v ≡ w
  one_view l i v w p q = some-injective v w (sym p ∙ q)

  module _ (f : A → ℕ) where
    pub sum_set : (l : List A) (i : ℕ) (v w : A) → get_elem? l i ≡ some v → sum_by f (set l i w) + f v ≡ sum_by f l + f w
    sum_set [] i v w at = absurd (some-ne-none v (sym at))
    sum_set (x ∷ xs) zero v w at = omega (arith, sum_by-cons f x xs, sum_by-cons f w xs, ap f (some-injective x v at))
    sum_set (x ∷ xs) (suc i) v w at = omega (arith, sum_by-cons f x xs, sum_by-cons f x (set xs i w), sum_set xs i v w at)

    pub one_term : (l : List A) (i : ℕ) (v : A) → get_elem? l i ≡ some v → f v ≤ sum_by f l
    one_term [] i v at = absurd (some-ne-none v (sym at))
    one_term (x ∷ xs) zero v at = omega (arith, sum_by-cons f x xs, ap f (some-injective x v at))
    one_term (x ∷ xs) (suc i) v at = omega (arith, sum_by-cons f x xs, one_term xs i v at)

    pub two_terms : (l : List A) (i j : ℕ) (v w : A) → j ≢ i → get_elem? l i ≡ some v → get_elem? l j ≡ some w → f v + f w ≤ sum_by f l
    two_terms [] i j v w ne p q = absurd (some-ne-none v (sym p))
    two_terms (x ∷ xs) zero zero v w ne p q = absurd (ne refl)
    two_terms (x ∷ xs) zero (suc j) v w ne p q = omega (arith, sum_by-cons f x xs, ap f (some-injective x v p), one_term xs j w q)
    two_terms (x ∷ xs) (suc i) zero v w ne p q = omega (arith, sum_by-cons f x xs, ap f (some-injective x w q), one_term xs i v p)
    two_terms (x ∷ xs) (suc i) (suc j) v w ne p q = omega (arith, sum_by-cons f x xs, two_terms xs i j v w (λ e. ne (ap suc e)) p q)
