-- The first line of a script that breaks a rule, and the first rule of these that it breaks.
use Rattle.std.specs.Prelude.{ℕ, ℤ, pos, negsuc, ◌+◌, ◌^◌, ◌==◌, ◌&&◌, ◌||◌, nat_lt, nat_le, Bool, false, List, [], ◌∷◌, length, Option, Some, None, if◌then◌else◌}
use Rattle.std.specs.List.{slice_split}
use Rattle.std.specs.Ordering.{int_eq}
use Rattle.pb_stim.specs.declared.causes.Cause.{Cause}
use Rattle.pb_stim.specs.declared.causes.Cause.TheVariants as causes
use Rattle.pb_replay.specs.declared.places.Place.{Place}
use Rattle.pb_replay.specs.Inputs.{input_of}
use Rattle.pb_replay.specs.Script.{Deed, Line, Skipped, Timed, Level, Command, CloseControl, OpenData, Take, CloseData, End, is_end}
use Rattle.pb_replay.specs.Reading.{line_in}

-- a level is 0 or 1
abbrev pub is_level : ℤ → Bool
is_level value = int_eq value (pos 0) || int_eq value (pos 1)

-- a position has signed 32 bits
abbrev pub is_position : ℤ → Bool
is_position (pos n) = nat_lt n (2 ^ 31)
is_position (negsuc n) = nat_lt n (2 ^ 31)

-- the value fits the input of this number
abbrev pub fits_input : ℕ → ℤ → Bool
fits_input input value = if nat_lt input 6 then is_level value else is_position value

-- What breaks a rule in a row of the stimulus, where its target is this input or none.
abbrev pub level_cause : Option ℕ → ℤ → Option Cause
level_cause None value = Some causes.UnknownTarget
level_cause (Some input) value = if fits_input input value then None else Some causes.ValueOutOfRange

-- sessions are 1 to 8
abbrev pub session_cause : ℕ → Option Cause
session_cause session = if nat_le 1 session && nat_le session 8 then None else Some causes.SessionOutOfRange

-- what breaks a rule in a deed
abbrev pub deed_cause : Deed → Option Cause
deed_cause (Level target value) = level_cause (input_of target) value
deed_cause (Command session text) = session_cause session
deed_cause (CloseControl session) = session_cause session
deed_cause (OpenData session options) = session_cause session
deed_cause (Take session) = session_cause session
deed_cause (CloseData session) = session_cause session
deed_cause End = None

-- what breaks a rule in a deed at a tick, where the line before has the last tick
abbrev pub timed_cause : ℕ → ℕ → Deed → Option Cause
timed_cause last tick deed =
    if nat_lt tick (2 ^ 62)
    then (if nat_le last tick then deed_cause deed else Some causes.TickFalls)
    else Some causes.TickOutOfRange

-- what breaks a rule in a line, or in a text that is none
abbrev pub line_cause : Bool → ℕ → Option Line → Option Cause
line_cause ended last (Some Skipped) = None
line_cause ended last (Some (Timed tick deed)) = if ended then Some causes.AfterTheEnd else timed_cause last tick deed
line_cause ended last None = if ended then Some causes.AfterTheEnd else Some causes.Malformed

-- the cause at a place of a line with its newline: a script has at most 16 MiB
abbrev pub cause_of : Place → List ℕ → Option Cause
cause_of place text =
    if nat_lt 16777216 (place.before + length text + 1) then Some causes.TooLarge
    else line_cause place.ended place.last (line_in text)

-- the cause at a place of what follows the last newline: nothing may
abbrev pub end_cause : Place → List ℕ → Option Cause
end_cause place [] = if place.ended then None else Some causes.NoEndLine
end_cause place (b ∷ bs) =
    if nat_lt 16777216 (place.before + length (b ∷ bs)) then Some causes.TooLarge else Some causes.NoNewline

-- the tick after a line
abbrev pub last_after : ℕ → Option Line → ℕ
last_after last (Some Skipped) = last
last_after last (Some (Timed tick deed)) = tick
last_after last None = last

-- whether the end has come after a line
abbrev pub ended_after : Bool → Option Line → Bool
ended_after ended (Some Skipped) = ended
ended_after ended (Some (Timed tick deed)) = is_end deed
ended_after ended None = ended

-- the place behind a line with its newline
abbrev pub after : Place → List ℕ → Place
after place text =
    record {
      number = place.number + 1;
      before = place.before + length text + 1;
      last = last_after place.last (line_in text);
      ended = ended_after place.ended (line_in text);
    }

-- the cause here with the number of the line, if there is one; else what comes later
abbrev pub or_later : ℕ → Option Cause → Option (ℕ × Cause) → Option (ℕ × Cause)
or_later number (Some cause) later = Some (number, cause)
or_later number None later = later

-- the first fault from a place on, in these lines and what follows the last newline
abbrev pub fault_from : Place → List (List ℕ) → Option (ℕ × Cause)
fault_from place [] = None
fault_from place (text ∷ []) = or_later place.number (end_cause place text) None
fault_from place (text ∷ next ∷ more) = or_later place.number (cause_of place text) (fault_from (after place text) (next ∷ more))

-- where the first line begins
abbrev pub start : Place
start = record { number = 1; before = 0; last = 0; ended = false }

-- the bytes cut at their newlines
abbrev pub cut_lines : List ℕ → List (List ℕ)
cut_lines bytes = slice_split (λ b. b == 10) bytes

-- the number of the first line that breaks a rule, counted from 1, and its cause
unfoldable pub first_fault : List ℕ → Option (ℕ × Cause)
first_fault bytes = fault_from start (cut_lines bytes)
