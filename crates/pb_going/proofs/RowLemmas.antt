-- The next row of the stimulus.
use Rattle.std.proofs.Common.{ℕ, zero, suc, ◌<◌, ◌≤◌, List, [], ◌∷◌, length, get_or, drop, arith}
use Rattle.std.specs.List.{AllByRecursion}
use Rattle.pb_stim.specs.declared.Row.{Row}

-- no row is left
pub none_coming : (P : Row → Type 0) (rows : List Row) (place : ℕ) → length rows ≤ place → AllByRecursion P (drop place rows)
none_coming P [] zero far = tt
none_coming P [] (suc place) far = tt
none_coming P (row ∷ rows) zero far = absurd (omega arith)
none_coming P (row ∷ rows) (suc place) far = none_coming P rows place (omega arith)

-- the first of those that are left
pub first_comes : (P : Row → Type 0) (rows : List Row) (place : ℕ) (d : Row) → place < length rows → AllByRecursion P (drop place rows) →
    P (get_or rows place d)
first_comes P [] place d within h = absurd (omega arith)
first_comes P (row ∷ rows) zero d within h = h.0
first_comes P (row ∷ rows) (suc place) d within h = first_comes P rows place d (omega arith) h
