-- What a line says, computed from its text.
use Rattle.std.specs.Prelude.{ℕ, ℤ, pos, neg_ℤ, ◌+◌, ◌==◌, ◌&&◌, nat_lt, Bool, false, List, [], ◌∷◌, length, take, drop, position, Option, Some, None, if◌then◌else◌}
use Rattle.std.specs.List.{position_or_len}
use Rattle.std.specs.Option.{option_map}
use Rattle.pb_words.specs.Numbers.{value_of}
use Rattle.pb_words.specs.Signed.{is_uint}
use Rattle.pb_replay.specs.Script.{Deed, Line, Skipped, Timed, Level, Command, CloseControl, OpenData, Take, CloseData, End}

-- the byte is a space
abbrev pub is_space : ℕ → Bool
is_space b = b == 32

-- what stands before the first space; all where there is none
abbrev pub before_space : List ℕ → List ℕ
before_space text = take (position_or_len is_space text) text

-- what stands after the first space; nothing where there is none
abbrev pub after_space : List ℕ → Option (List ℕ)
after_space text = option_map (λ i. drop (i + 1) text) (position is_space text)

-- digits, perhaps after a minus sign
abbrev pub is_signed : List ℕ → Bool
is_signed [] = false
is_signed (b ∷ bs) = if b == 45 then is_uint bs else is_uint (b ∷ bs)

-- the number that these write
abbrev pub signed_value : List ℕ → ℤ
signed_value [] = pos 0
signed_value (b ∷ bs) = if b == 45 then neg_ℤ (pos (value_of bs)) else pos (value_of (b ∷ bs))

-- a row of the stimulus: its target, and the value behind the space
abbrev pub level_of : List ℕ → Option (List ℕ) → Option Deed
level_of target None = None
level_of target (Some written) =
    if nat_lt 0 (length target) && is_signed written then Some (Level target (signed_value written)) else None

-- the text of a line behind the number of its session: empty where there is none
abbrev pub text_behind : Option (List ℕ) → List ℕ
text_behind None = []
text_behind (Some text) = text

-- the number of a session alone
abbrev pub named_by : (ℕ → Deed) → List ℕ → Option Deed
named_by deed rest = if is_uint rest then Some (deed (value_of rest)) else None

-- the number of a session, and perhaps a text behind a space
abbrev pub sent_by : (ℕ → List ℕ → Deed) → List ℕ → Option Deed
sent_by deed rest =
    if is_uint (before_space rest)
    then Some (deed (value_of (before_space rest)) (text_behind (after_space rest)))
    else None

-- what stands behind a letter and a space: S, C, X, D, R and Y
abbrev pub deed_by : ℕ → List ℕ → Option Deed
deed_by letter rest =
    if letter == 83 then level_of (before_space rest) (after_space rest) else
    (if letter == 67 then sent_by Command rest else
    (if letter == 88 then named_by CloseControl rest else
    (if letter == 68 then sent_by OpenData rest else
    (if letter == 82 then named_by Take rest else
    (if letter == 89 then named_by CloseData rest else None)))))

-- what stands behind the tick and its space: the letter E alone, or another letter and a space
abbrev pub deed_in : List ℕ → Option Deed
deed_in [] = None
deed_in (letter ∷ []) = if letter == 69 then Some End else None
deed_in (letter ∷ space ∷ rest) = if space == 32 then deed_by letter rest else None

-- a tick, and what stands behind its space
abbrev pub timed_of : List ℕ → Option (List ℕ) → Option Line
timed_of digits None = None
timed_of digits (Some rest) = if is_uint digits then option_map (Timed (value_of digits)) (deed_in rest) else None

-- the line that the text is, if it is one
unfoldable pub line_in : List ℕ → Option Line
line_in [] = Some Skipped
line_in (b ∷ bs) = if b == 35 then Some Skipped else timed_of (before_space (b ∷ bs)) (after_space (b ∷ bs))
