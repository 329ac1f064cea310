-- The options line of a data session.
use Rattle.std.specs.Prelude.{◌≡◌, ℕ, ◌≤◌, ◌⊎◌, List, ◌∷◌, ◌++◌, length, Option}
use Rattle.pb_ports.specs.Ports.{Takes}
use Rattle.pb_grammar.specs.Grammar.{IsText, longest}

-- No line is whole yet: there is no newline, and there are few bytes.
pub record IsUnfinished (bytes : List ℕ) : Type 0 where
  pub text : IsText bytes
  pub short : length bytes ≤ longest

-- The line is what stands before the first newline.
pub record IsCut (bytes line : List ℕ) : Type 0 where
  pub rest : List ℕ
  pub text : IsText line
  pub short : length line ≤ longest
  pub printed : bytes ≡ line ++ 10 ∷ rest

-- Or there are 4,097 bytes without a newline: then the line is these.
pub record IsTooLong (bytes line : List ℕ) : Type 0 where
  pub rest : List ℕ
  pub text : IsText line
  pub long : length line ≡ 4097
  pub printed : bytes ≡ line ++ rest

-- The bytes have this options line.
abbrev pub HasLine : List ℕ → List ℕ → Type 0
HasLine bytes line = IsCut bytes line ⊎ IsTooLong bytes line

-- This line was read, and nothing after the piece that made it whole.
pub record ReadsLine (left rest : Option (List ℕ)) (line : List ℕ) : Type 0 where
  pub before : List ℕ
  pub piece : List ℕ
  pub read : Takes left (before ++ piece) rest
  pub unfinished : IsUnfinished before
  pub has : HasLine (before ++ piece) line

-- No line was read to its end.
pub record ReadsNoLine (left rest : Option (List ℕ)) : Type 0 where
  pub bytes : List ℕ
  pub read : Takes left bytes rest
  pub unfinished : IsUnfinished bytes
