-- The first line of a stimulus that breaks a rule, and the first rule of these that it breaks.
use Rattle.std.specs.Prelude.{ℕ, ℤ, pos, negsuc, ◌+◌, ◌^◌, ◌==◌, ◌||◌, nat_lt, nat_le, Bool, List, [], ◌∷◌, length, Option, Some, None, if◌then◌else◌}
use Rattle.std.specs.List.{slice_split}
use Rattle.std.specs.Ordering.{int_eq}
use Rattle.pb_stim.specs.declared.causes.Cause.{Cause}
use Rattle.pb_stim.specs.declared.causes.Cause.TheVariants as causes
use Rattle.pb_stim.specs.declared.places.Place.{Place}
use Rattle.pb_stim.specs.Inputs.{input_of}
use Rattle.pb_stim.specs.Lines.{Line, Skipped, Level}
use Rattle.pb_stim.specs.Reading.{line_in}

-- a level is 0 or 1
abbrev pub is_level : ℤ → Bool
is_level value = int_eq value (pos 0) || int_eq value (pos 1)

-- a position has signed 32 bits
abbrev pub is_position : ℤ → Bool
is_position (pos n) = nat_lt n (2 ^ 31)
is_position (negsuc n) = nat_lt n (2 ^ 31)

-- the value fits the input of this number
abbrev pub fits_input : ℕ → ℤ → Bool
fits_input input value = if nat_lt input 6 then is_level value else is_position value

-- what breaks a rule in a row whose target is this input or none
abbrev pub level_cause : Option ℕ → ℤ → Option Cause
level_cause None value = Some causes.UnknownTarget
level_cause (Some input) value = if fits_input input value then None else Some causes.ValueOutOfRange

-- what breaks a rule in a row, where the line before has the last tick
abbrev pub row_cause : ℕ → ℕ → List ℕ → ℤ → Option Cause
row_cause last tick target value =
    if nat_lt tick (2 ^ 62)
    then (if nat_le last tick then level_cause (input_of target) value else Some causes.TickFalls)
    else Some causes.TickOutOfRange

-- what breaks a rule in a line, or in a text that is none
abbrev pub line_cause : ℕ → Option Line → Option Cause
line_cause last (Some Skipped) = None
line_cause last (Some (Level tick target value)) = row_cause last tick target value
line_cause last None = Some causes.Malformed

-- the cause at a place of a line with its newline: a stimulus has at most 16 MiB
abbrev pub cause_of : Place → List ℕ → Option Cause
cause_of place text =
    if nat_lt 16777216 (place.before + length text + 1) then Some causes.TooLarge else line_cause place.last (line_in text)

-- the cause at a place of what follows the last newline: nothing may
abbrev pub end_cause : Place → List ℕ → Option Cause
end_cause place [] = None
end_cause place (b ∷ bs) =
    if nat_lt 16777216 (place.before + length (b ∷ bs)) then Some causes.TooLarge else Some causes.NoNewline

-- the tick after a line
abbrev pub last_after : ℕ → Option Line → ℕ
last_after last (Some Skipped) = last
last_after last (Some (Level tick target value)) = tick
last_after last None = last

-- the place behind a line with its newline
abbrev pub after : Place → List ℕ → Place
after place text =
    record {
      number = place.number + 1;
      before = place.before + length text + 1;
      last = last_after place.last (line_in text);
    }

-- the cause here with the number of the line, if there is one; else what comes later
abbrev pub or_later : ℕ → Option Cause → Option (ℕ × Cause) → Option (ℕ × Cause)
or_later number (Some cause) later = Some (number, cause)
or_later number None later = later

-- the first fault from a place on, in these lines and what follows the last newline
abbrev pub fault_from : Place → List (List ℕ) → Option (ℕ × Cause)
fault_from place [] = None
fault_from place (text ∷ []) = or_later place.number (end_cause place text) None
fault_from place (text ∷ next ∷ more) = or_later place.number (cause_of place text) (fault_from (after place text) (next ∷ more))

-- where the first line begins
abbrev pub start : Place
start = record { number = 1; before = 0; last = 0 }

-- the bytes cut at their newlines
abbrev pub cut_lines : List ℕ → List (List ℕ)
cut_lines bytes = slice_split (λ b. b == 10) bytes

-- the number of the first line that breaks a rule, counted from 1, and its cause
unfoldable pub first_fault : List ℕ → Option (ℕ × Cause)
first_fault bytes = fault_from start (cut_lines bytes)
