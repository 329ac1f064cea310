-- Words of private helpers: no public clause cites them.
-- What the code holds of a body in base64.
use Rattle.std.specs.Prelude.{◌≡◌, ℕ, ◌≤◌, List, take}
use Rattle.base64.specs.Engines.{standard}
use Rattle.base64.specs.GeneralPurpose.{IsBytes, encode_of}

-- these letters are those of the first n bytes
pub record IsChunk (letters : List ℕ) (n : ℕ) (out : List ℕ) : Type 0 where
  pub few : n ≤ 12
  pub bytes : IsBytes (take n out)
  pub printed : letters ≡ encode_of standard (take n out)
