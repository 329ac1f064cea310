-- Streams: which bytes are whole commands, one after the other.
use Rattle.std.specs.Prelude.{◌≡◌, ℕ, ◌+◌, ◌==◌, ◌⊎◌, Bool, true, false, List, [], ◌∷◌, ◌++◌, length, take, drop, position, Option, Some, None, if◌then◌else◌}
use Rattle.std.specs.Option.{option_map_or}
use Rattle.pb_grammar.specs.Grammar.{IsLine, IsTable, Opening, Opens, opening_in, body_of, rows}

-- a line that opens no body is whole at its newline
pub record IsWholeLine (bytes : List ℕ) : Type 0 where
  pub text : List ℕ
  pub line : IsLine bytes text
  pub closed : (opening : Opening) → ¬ (Opens text opening)

-- a line that opens a body is whole with its body and the empty line
pub record IsWholeTable (bytes : List ℕ) : Type 0 where
  pub opening : Opening
  pub lines : List (List ℕ)
  pub table : IsTable bytes opening lines

-- the bytes are one whole command
abbrev pub IsWhole : List ℕ → Type 0
IsWhole bytes = IsWholeLine bytes ⊎ IsWholeTable bytes

-- no front of the bytes is a whole command
abbrev pub IsBegun : List ℕ → Type 0
IsBegun rest = (front behind : List ℕ) → rest ≡ front ++ behind → ¬ (IsWhole front)

-- The stream is these whole commands, one after the other, and a rest of which no front is one.
abbrev pub Commands : List ℕ → List (List ℕ) → List ℕ → Type 0
Commands stream [] rest = (stream ≡ rest) × IsBegun rest
Commands stream (command ∷ list) rest =
    (more : List ℕ) × IsWhole command × (stream ≡ command ++ more) × Commands more list rest

-- The same, computed.

-- the first line is whole with this behind its newline: nothing, or where it opens a body the body and the empty line
abbrev pub is_whole_with : Option Opening → List ℕ → Bool
is_whole_with None behind = length behind == 0
is_whole_with (Some opening) behind = option_map_or (λ lines. true) (body_of (rows behind)) false

-- whether the bytes are one whole command
unfoldable pub is_whole : List ℕ → Bool
is_whole bytes =
    option_map_or (λ place. is_whole_with (opening_in (take place bytes)) (drop (place + 1) bytes))
    (position (λ b. b == 10) bytes) false

-- Lines.

-- the bytes that were seen of a command with those of a line more: its text, and a newline
abbrev pub with_line : List ℕ → List ℕ → List ℕ
with_line seen line = (seen ++ line) ++ 10 ∷ []

-- what waits of a command after a line: nothing, where that completes it
abbrev pub left_waiting : List ℕ → List ℕ → List ℕ
left_waiting seen line = if is_whole (with_line seen line) then [] else with_line seen line
