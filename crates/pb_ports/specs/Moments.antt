-- What asking a pacer for the moment does to the moments still to come, where these are told.
use Rattle.std.specs.Prelude.{◌≡◌, ℕ, ◌<◌, ◌^◌, List, [], ◌∷◌, Option, Some, None}

-- the first moment of the list, or 0 where none is left
abbrev pub first_moment : List ℕ → ℕ
first_moment [] = 0
first_moment (moment ∷ rest) = moment

-- the moments behind the first
abbrev pub later_moments : List ℕ → List ℕ
later_moments [] = []
later_moments (moment ∷ rest) = rest

-- the moment told is the first, and the others are still to come
abbrev pub Tells : Option (List ℕ) → ℕ → Option (List ℕ) → Type 0
Tells None moment new = new ≡ None
Tells (Some moments) moment new = (moment ≡ first_moment moments) × (new ≡ Some (later_moments moments))

-- a tick of the box
abbrev pub IsTick : ℕ → Type 0
IsTick moment = moment < 2 ^ 62
