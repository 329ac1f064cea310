-- Words of private helpers: no public clause cites them.
-- The lines that are read, as the lines of a script, and what reading answers.
use Rattle.std.specs.Prelude.{◌≡◌, ℕ, pos, ◌<◌, ◌^◌, ◌⊎◌, List, [], Some, None, Result, Ok, Err}
use Rattle.std.specs.List.{slice_index_or}
use Rattle.pb_stim.specs.declared.causes.Cause.{Cause}
use Rattle.pb_replay.specs.declared.lines.ReadDeed.{ReadDeed}
use Rattle.pb_replay.specs.declared.lines.ReadDeed.TheVariants as deeds
use Rattle.pb_replay.specs.declared.lines.ReadLine.{ReadLine}
use Rattle.pb_replay.specs.declared.lines.ReadLine.TheVariants as lines
use Rattle.pb_replay.specs.declared.places.Place.{Place}
use Rattle.pb_replay.specs.Script.{Deed, Line, Skipped, Timed, Level, Command, CloseControl, OpenData, Take, CloseData, End, IsSession}
use Rattle.pb_replay.specs.Inputs.{inputs}
use Rattle.pb_replay.specs.Reading.{line_in}
use Rattle.pb_replay.specs.Faults.{session_cause, deed_cause, timed_cause, cause_of}

-- the name of an input
abbrev pub input_name : ℕ → List ℕ
input_name input = slice_index_or inputs input []

-- the deed, without where its text lies in memory
abbrev pub deed_of : ReadDeed → Deed
deed_of (deeds.Level input value) = Level (input_name input) value
deed_of (deeds.Command session text) = Command session text.now
deed_of (deeds.CloseControl session) = CloseControl session
deed_of (deeds.OpenData session options) = OpenData session options.now
deed_of (deeds.Take session) = Take session
deed_of (deeds.CloseData session) = CloseData session
deed_of deeds.End = End

-- the line, likewise
abbrev pub line_of : ReadLine → Line
line_of lines.Skipped = Skipped
line_of (lines.Timed tick deed) = Timed tick (deed_of deed)

-- the numbers of a deed that was read are in range
abbrev pub IsReadDeed : ReadDeed → Type 0
IsReadDeed (deeds.Level input value) = (input < 10) × (input < 6 → (value ≡ pos 0) ⊎ (value ≡ pos 1))
IsReadDeed (deeds.Command session text) = IsSession session
IsReadDeed (deeds.CloseControl session) = IsSession session
IsReadDeed (deeds.OpenData session options) = IsSession session
IsReadDeed (deeds.Take session) = IsSession session
IsReadDeed (deeds.CloseData session) = IsSession session
IsReadDeed deeds.End = Unit {0}

-- and those of a line
abbrev pub IsReadLine : ReadLine → Type 0
IsReadLine lines.Skipped = Unit {0}
IsReadLine (lines.Timed tick deed) = (tick < 2 ^ 62) × IsReadDeed deed

-- The answer to the number of a session.
abbrev pub ReadsSession : ℕ → Result ℕ Cause → Type 0
ReadsSession session (Ok read) = (read ≡ session) × IsSession session × (session_cause session ≡ None)
ReadsSession session (Err cause) = session_cause session ≡ Some cause

-- to a deed
abbrev pub ReadsDeed : Deed → Result ReadDeed Cause → Type 0
ReadsDeed deed (Ok read) = (deed_of read ≡ deed) × IsReadDeed read × (deed_cause deed ≡ None)
ReadsDeed deed (Err cause) = deed_cause deed ≡ Some cause

-- to a deed at a tick
abbrev pub ReadsTimed : ℕ → ℕ → Deed → Result ReadLine Cause → Type 0
ReadsTimed last tick deed (Ok read) = (line_of read ≡ Timed tick deed) × IsReadLine read × (timed_cause last tick deed ≡ None)
ReadsTimed last tick deed (Err cause) = timed_cause last tick deed ≡ Some cause

-- to a line with its newline at a place
abbrev pub ReadsLine : Place → List ℕ → Result ReadLine Cause → Type 0
ReadsLine place text (Ok read) = (line_in text ≡ Some (line_of read)) × IsReadLine read × (cause_of place text ≡ None)
ReadsLine place text (Err cause) = cause_of place text ≡ Some cause
