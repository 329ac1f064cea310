-- Lists of numbers, one for each position entry.
use Rattle.std.specs.Prelude.{ℤ, ◌+ℤ◌, List, [], ◌∷◌}
use Rattle.std.specs.Int.{w64, int_wrap}

-- two lists joined place by place
abbrev pub each : (ℤ → ℤ → ℤ) → List ℤ → List ℤ → List ℤ
each f [] ys = []
each f (x ∷ xs) [] = []
each f (x ∷ xs) (y ∷ ys) = f x y ∷ each f xs ys

-- a position added to a sum: modulo 2^64, as a signed number of 64 bits
abbrev pub added : ℤ → ℤ → ℤ
added sum position = int_wrap w64 (sum +ℤ position)
