-- The rows of a stimulus, copied one by one.
use Rattle.std.proofs.Common.{◌≡◌, ℕ, zero, suc, ◌+◌, ◌≤◌, List, [], ◌∷◌, ◌++◌, take, slice_get, Some, refl, sym, ap, subst, ◌∙◌, arith, ℤ}
use Rattle.pb_stim.specs.declared.Row.{Row}
use Rattle.pb_stim.specs.Stimulus.{NeverFall, last_tick}

-- the next row isn't below the last of those that are copied
pub next_not_below : (tick i : ℕ) (rows : List Row) (row : Row) → NeverFall tick rows → slice_get rows i ≡ Some row → last_tick tick (take i rows) ≤ row.tick
next_not_below tick i [] row h e = cc
next_not_below tick zero (first ∷ rows) row h e =
    let same : first ≡ row = cc in
    rw (sym same) h.0
next_not_below tick (suc i) (first ∷ rows) row h e = next_not_below first.tick i rows row h.1 e

next : (i : ℕ) → suc (i + 1) ≡ suc i + 1
next i = omega arith

-- one row more is copied
pub one_more_copied : (rows copy more : List Row) (i : ℕ) (row : Row) → slice_get rows i ≡ Some row → copy ≡ take i rows → more ≡ copy ++ row ∷ [] → more ≡ take (i + 1) rows
one_more_copied [] copy more i row e h k = cc
one_more_copied (first ∷ rows) copy more zero row e h k =
    let same : first ≡ row = cc in
    k ∙ (ap (λ x. x ++ row ∷ []) h ∙ ap (λ x. x ∷ []) (sym same))
one_more_copied (first ∷ rows) copy more (suc i) row e h k =
    k ∙ (ap (λ x. x ++ row ∷ []) h ∙ (ap (λ x. first ∷ x) (one_more_copied rows (take i rows) (take i rows ++ row ∷ []) i row e refl refl) ∙ ap (λ n. take n (first ∷ rows)) (next i)))

-- the same with its value written otherwise
pub value_back : (copy more : List Row) (tick target : ℕ) (v w : ℤ) → v ≡ w → more ≡ copy ++ record { tick = tick; target = target; value = v } ∷ [] → more ≡ copy ++ record { tick = tick; target = target; value = w } ∷ []
value_back copy more tick target v w e h = subst (λ x. more ≡ copy ++ record { tick = tick; target = target; value = x } ∷ []) e h
