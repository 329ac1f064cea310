-- What a line says, computed from its text.
use Rattle.std.specs.Prelude.{ℕ, ◌==◌, ◌&&◌, nat_lt, List, [], ◌∷◌, length, Option, Some, None, if◌then◌else◌}
use Rattle.pb_words.specs.Numbers.{value_of}
use Rattle.pb_words.specs.Signed.{is_uint}
use Rattle.pb_stim.specs.Lines.{Line, Skipped, Level}
use Rattle.pb_stim.specs.Texts.{before_space, after_space, is_signed, signed_value}

-- a row at this tick: its target, and the value behind the space
abbrev pub level_of : ℕ → List ℕ → Option (List ℕ) → Option Line
level_of tick target None = None
level_of tick target (Some written) =
    if nat_lt 0 (length target) && is_signed written then Some (Level tick target (signed_value written)) else None

-- what stands behind the tick and its space: the letter S and a space, and then a row
abbrev pub row_in : ℕ → List ℕ → Option Line
row_in tick [] = None
row_in tick (letter ∷ []) = None
row_in tick (letter ∷ space ∷ rest) =
    if (letter == 83) && (space == 32) then level_of tick (before_space rest) (after_space rest) else None

-- a tick, and what stands behind its space
abbrev pub timed_of : List ℕ → Option (List ℕ) → Option Line
timed_of digits None = None
timed_of digits (Some rest) = if is_uint digits then row_in (value_of digits) rest else None

-- the line that the text is, if it is one
unfoldable pub line_in : List ℕ → Option Line
line_in [] = Some Skipped
line_in (b ∷ bs) = if b == 35 then Some Skipped else timed_of (before_space (b ∷ bs)) (after_space (b ∷ bs))
