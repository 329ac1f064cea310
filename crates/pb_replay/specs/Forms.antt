-- Words of private helpers: no public clause cites them.
-- Lines as they are written, as the lines of a script.
use Rattle.std.specs.Prelude.{◌≡◌, true}
use Rattle.pb_words.specs.Numbers.{value_of}
use Rattle.pb_words.specs.Signed.{is_uint}
use Rattle.pb_replay.specs.declared.forms.Written.{Written}
use Rattle.pb_replay.specs.declared.forms.Written.TheVariants as writes
use Rattle.pb_replay.specs.declared.forms.Form.{Form}
use Rattle.pb_replay.specs.declared.forms.Form.TheVariants as forms
use Rattle.pb_replay.specs.Script.{Deed, Line, Skipped, Timed, Level, Command, CloseControl, OpenData, Take, CloseData, End}
use Rattle.pb_replay.specs.Reading.{is_signed, signed_value}

-- the deed, with its digits as numbers
abbrev pub deed_written : Written → Deed
deed_written (writes.Level target value) = Level target.now (signed_value value.now)
deed_written (writes.Command session text) = Command (value_of session.now) text.now
deed_written (writes.CloseControl session) = CloseControl (value_of session.now)
deed_written (writes.OpenData session options) = OpenData (value_of session.now) options.now
deed_written (writes.Take session) = Take (value_of session.now)
deed_written (writes.CloseData session) = CloseData (value_of session.now)
deed_written writes.End = End

-- the line, likewise
abbrev pub form_line : Form → Line
form_line forms.Skipped = Skipped
form_line (forms.Timed tick written) = Timed (value_of tick.now) (deed_written written)

-- where a number stands there are digits
abbrev pub IsWritten : Written → Type 0
IsWritten (writes.Level target value) = is_signed value.now ≡ true
IsWritten (writes.Command session text) = is_uint session.now ≡ true
IsWritten (writes.CloseControl session) = is_uint session.now ≡ true
IsWritten (writes.OpenData session options) = is_uint session.now ≡ true
IsWritten (writes.Take session) = is_uint session.now ≡ true
IsWritten (writes.CloseData session) = is_uint session.now ≡ true
IsWritten writes.End = Unit {0}

-- and where a tick stands
abbrev pub IsForm : Form → Type 0
IsForm forms.Skipped = Unit {0}
IsForm (forms.Timed tick written) = (is_uint tick.now ≡ true) × IsWritten written
