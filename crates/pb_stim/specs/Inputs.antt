-- The inputs from outside, and what each may have.
use Rattle.std.specs.Prelude.{◌≡◌, ℕ, ℤ, pos, ◌<◌, ◌≤◌, ◌⊎◌, nat_eq, List, [], ◌∷◌, position, slice_get, Option, Some, codes, FitsSigned}
use Rattle.std.specs.Int.{w32}
use Rattle.std.specs.Cmp.Lexicographic.{pointwise}

-- their names, by their numbers
unfoldable pub inputs : List (List ℕ)
inputs =
    codes "TTLIN1"
    ∷ codes "TTLIN2"
    ∷ codes "TTLIN3"
    ∷ codes "TTLIN4"
    ∷ codes "TTLIN5"
    ∷ codes "TTLIN6"
    ∷ codes "INENC1"
    ∷ codes "INENC2"
    ∷ codes "INENC3"
    ∷ codes "INENC4"
    ∷ []

-- the number of the input of this name
abbrev pub input_of : List ℕ → Option ℕ
input_of target = position (λ name. pointwise nat_eq name target) inputs

-- The input of this name may have this value: TTLIN1 to TTLIN6 have 0 or 1, and INENC1 to INENC4 a number of signed 32 bits.
abbrev pub MayHave : List ℕ → ℤ → Type 0
MayHave target value =
    (input : ℕ) × (slice_get inputs input ≡ Some target)
    × (((input < 6) × ((value ≡ pos 0) ⊎ (value ≡ pos 1))) ⊎ ((6 ≤ input) × FitsSigned w32 value))
