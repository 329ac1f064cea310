-- Texts that are cut: the digits at their front, and their spaces.
use Rattle.std.specs.Prelude.{⊤, ℕ, not, ◌==◌, List, [], ◌∷◌, filter}
use Rattle.pb_words.specs.Numbers.{IsDigit}

-- the text is empty, or its first byte is no digit
abbrev pub BeginsNoDigit : List ℕ → Type 0
BeginsNoDigit [] = ⊤
BeginsNoDigit (b ∷ bs) = ¬ (IsDigit b)

-- the text without its spaces
abbrev pub without_spaces : List ℕ → List ℕ
without_spaces text = filter (λ b. not (b == 32)) text
