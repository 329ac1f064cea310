-- Words of private helpers: no public clause cites them.
-- Where a line ends.
use Rattle.std.specs.Prelude.{◌≡◌, ℕ, ◌+◌, ◌<◌, List, ◌∷◌, ◌++◌, length, take, drop}
use Rattle.pb_grammar.specs.Grammar.{IsText}

-- at this place stands the first newline
pub record IsNewline (text : List ℕ) (place : ℕ) : Type 0 where
  pub within : place < length text
  pub before : IsText (take place text)
  pub parts : text ≡ take place text ++ 10 ∷ drop (place + 1) text
