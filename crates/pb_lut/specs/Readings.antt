-- Words of private helpers: no public clause cites them.
-- What the readers of an expression answer.
use Rattle.std.specs.Prelude.{◌≡◌, ℕ, List, [], ◌∷◌, ◌++◌}
use Rattle.pb_lut.specs.Expressions.{Level, ors, xors, ands, nots, atoms, Tree, print, number}

-- the first byte of the text is b
abbrev pub BeginsWith : ℕ → List ℕ → Type 0
BeginsWith b [] = ⊥
BeginsWith b (c ∷ text) = c ≡ b

-- what follows doesn't go on with an expression of this level: it begins with no operator of the
-- level or of a tighter one (`|` is 124, `^` is 94, `&` is 38)
abbrev pub Ends : Level → List ℕ → Type 0
Ends ors rest = ¬ (BeginsWith 124 rest) × ¬ (BeginsWith 94 rest) × ¬ (BeginsWith 38 rest)
Ends xors rest = ¬ (BeginsWith 94 rest) × ¬ (BeginsWith 38 rest)
Ends ands rest = ¬ (BeginsWith 38 rest)
Ends nots rest = Unit {0}
Ends atoms rest = Unit {0}

-- at the front of the text stands an expression of this level and of the number n, and the rest follows
pub record Reads (level : Level) (text : List ℕ) (n : ℕ) (rest : List ℕ) : Type 0 where
  pub tree : Tree level
  pub written : text ≡ print tree ++ rest
  pub value : number tree ≡ n
  pub ends : Ends level rest

-- no expression of this level stands there
abbrev pub ReadsNothing : Level → List ℕ → Type 0
ReadsNothing level text = (n : ℕ) (rest : List ℕ) → ¬ (Reads level text n rest)
