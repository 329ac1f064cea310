-- Words of private helpers: no public clause cites them.
-- Lines as they are written and as they are read, and what reading one answers.
use Rattle.std.specs.Prelude.{◌≡◌, ℕ, ℤ, pos, ◌<◌, ◌≤◌, ◌^◌, ◌⊎◌, true, List, [], Option, Some, None, Result, Ok, Err}
use Rattle.std.specs.List.{slice_index_or}
use Rattle.pb_words.specs.Numbers.{value_of}
use Rattle.pb_words.specs.Signed.{is_uint}
use Rattle.pb_stim.specs.declared.causes.Cause.{Cause}
use Rattle.pb_stim.specs.declared.forms.Form.{Form}
use Rattle.pb_stim.specs.declared.forms.Form.TheVariants as forms
use Rattle.pb_stim.specs.declared.forms.ReadLine.{ReadLine}
use Rattle.pb_stim.specs.declared.forms.ReadLine.TheVariants as lines
use Rattle.pb_stim.specs.declared.places.Place.{Place}
use Rattle.pb_stim.specs.Inputs.{inputs}
use Rattle.pb_stim.specs.Lines.{Line, Skipped, Level}
use Rattle.pb_stim.specs.Texts.{is_signed, signed_value}
use Rattle.pb_stim.specs.Reading.{line_in}
use Rattle.pb_stim.specs.Faults.{row_cause, cause_of}

-- a line that is written, with its digits as numbers
abbrev pub form_line : Form → Line
form_line forms.Skipped = Skipped
form_line (forms.Level tick target value) = Level (value_of tick.now) target.now (signed_value value.now)

-- where a number stands there are digits
abbrev pub IsForm : Form → Type 0
IsForm forms.Skipped = Unit {0}
IsForm (forms.Level tick target value) = (is_uint tick.now ≡ true) × (is_signed value.now ≡ true)

-- the name of an input
abbrev pub input_name : ℕ → List ℕ
input_name input = slice_index_or inputs input []

-- a line that is read, as a line
abbrev pub line_of : ReadLine → Line
line_of lines.Skipped = Skipped
line_of (lines.Level tick input value) = Level tick (input_name input) value

-- its numbers are in range
abbrev pub IsReadLine : ReadLine → Type 0
IsReadLine lines.Skipped = Unit {0}
IsReadLine (lines.Level tick input value) =
    (tick < 2 ^ 62) × (input < 10) × (input < 6 → (value ≡ pos 0) ⊎ (value ≡ pos 1))

-- The answer to a target and its value: the number of the input, and the value.
abbrev pub ReadsLevel : List ℕ → ℤ → Option Cause → Result (ℕ × ℤ) Cause → Type 0
ReadsLevel target value cause (Ok read) =
    (input_name read.0 ≡ target) × (read.1 ≡ value) × (read.0 < 10) × (read.0 < 6 → (read.1 ≡ pos 0) ⊎ (read.1 ≡ pos 1)) × (cause ≡ None)
ReadsLevel target value cause (Err e) = cause ≡ Some e

-- to a row
abbrev pub ReadsRow : ℕ → ℕ → List ℕ → ℤ → Result ReadLine Cause → Type 0
ReadsRow last tick target value (Ok read) =
    (line_of read ≡ Level tick target value) × IsReadLine read × (row_cause last tick target value ≡ None)
ReadsRow last tick target value (Err cause) = row_cause last tick target value ≡ Some cause

-- to a line with its newline at a place
abbrev pub ReadsLine : Place → List ℕ → Result ReadLine Cause → Type 0
ReadsLine place text (Ok read) = (line_in text ≡ Some (line_of read)) × IsReadLine read × (cause_of place text ≡ None)
ReadsLine place text (Err cause) = cause_of place text ≡ Some cause

-- the line isn't below this tick
abbrev pub FollowsTick : ℕ → ReadLine → Type 0
FollowsTick last lines.Skipped = Unit {0}
FollowsTick last (lines.Level tick input value) = last ≤ tick
