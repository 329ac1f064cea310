-- The words that ask for a script of so many points.
use Rattle.std.specs.Prelude.{◌≡◌, ℕ, ◌<◌, ◌≤◌, ◌^◌, List, [], ◌∷◌}
use Rattle.pb_words.specs.Numbers.{WritesNumber}

-- the text writes this number of points: there are 1 to 100,000
pub record IsPoints (text : List ℕ) (n : ℕ) : Type 0 where
  pub written : WritesNumber text n
  pub some : 1 ≤ n
  pub most : n ≤ 100000

-- the text writes this seed, which has 64 bits
pub record IsSeed (text : List ℕ) (seed : ℕ) : Type 0 where
  pub written : WritesNumber text seed
  pub fits : seed < 2 ^ 64

-- The words are this one, the number of points and the seed.
pub record Asks (word : List ℕ) (words : List (List ℕ)) (n seed : ℕ) : Type 0 where
  pub points_text : List ℕ
  pub seed_text : List ℕ
  pub spelled : words ≡ word ∷ points_text ∷ seed_text ∷ []
  pub points : IsPoints points_text n
  pub seeds : IsSeed seed_text seed
