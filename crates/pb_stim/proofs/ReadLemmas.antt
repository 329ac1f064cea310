-- A line that was read may be added to the rows before it.
use Rattle.std.proofs.Common.{◌≡◌, ℕ, ◌<◌, ℤ, List, [], ◌∷◌, Option, unwrap_or, sym, ap, subst, ◌∙◌, arith, Some, None}
use Rattle.std.proofs.lemmas.Option.{same_Some}
use Rattle.pb_stim.specs.declared.stimuli.Row.{Row}
use Rattle.pb_stim.specs.declared.places.Place.{Place}
use Rattle.pb_stim.specs.declared.forms.ReadLine.{ReadLine}
use Rattle.pb_stim.specs.declared.forms.ReadLine.TheVariants as lines
use Rattle.pb_stim.specs.Stimulus.{last_tick}
use Rattle.pb_stim.specs.Lines.{Level, rows_of}
use Rattle.pb_stim.specs.Reading.{line_in}
use Rattle.pb_stim.specs.Faults.{cause_of}
use Rattle.pb_stim.specs.Answers.{input_name, line_of, FollowsTick}
use Rattle.pb_stim.proofs.InputLemmas.{input_back}
use Rattle.pb_stim.proofs.RuleLemmas.{Stands, stands, IsLater}
use Rattle.pb_stim.proofs.ReadSoFar.{IsRead}

-- its tick isn't below that of the last row
pub may_follow : (bytes rest line : List ℕ) (place : Place) (rows : List Row) (read : ReadLine) → cause_of place line ≡ None → line_in line ≡ Some (line_of read) → IsRead bytes rest place rows → FollowsTick (last_tick 0 rows) read
may_follow bytes rest line place rows lines.Skipped none is r = tt
may_follow bytes rest line place rows (lines.Level tick input value) none is r =
    let s : Stands place line = stands place line none in
    let later : IsLater place.last (Level tick (input_name input) value) = subst (IsLater place.last) (same_Some s.line (Level tick (input_name input) value) (sym s.read ∙ is)) s.later in
    omega (arith, r.row, later)

-- the row of a level that was read
row_with : ℕ → ℤ → Option ℕ → List Row
row_with tick value input = record { tick = tick; target = unwrap_or input 0; value = value } ∷ []

pub level_row : (tick input : ℕ) (value : ℤ) → input < 10 → rows_of (Level tick (input_name input) value) ≡ record { tick = tick; target = input; value = value } ∷ []
unfolding row_with
level_row tick input value h = ap (row_with tick value) (input_back input h)
