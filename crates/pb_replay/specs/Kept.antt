-- A script as it is kept: the rows of its stimulus, which stand on the buses at their ticks, and all else that is played.
use Rattle.std.specs.Prelude.{List, [], ◌∷◌, unwrap_or}
use Rattle.std.specs.List.{flat_map}
use Rattle.pb_stim.specs.declared.stimuli.Row.{Row}
use Rattle.pb_replay.specs.Inputs.{input_of}
use Rattle.pb_replay.specs.Script.{Line, Skipped, Timed, Level, Command, CloseControl, OpenData, Take, CloseData, End}

-- the row of the stimulus that a line is, if any
abbrev pub rows_of : Line → List Row
rows_of Skipped = []
rows_of (Timed tick (Level target value)) =
    record { tick = tick; target = unwrap_or (input_of target) 0; value = value } ∷ []
rows_of (Timed tick (Command session text)) = []
rows_of (Timed tick (CloseControl session)) = []
rows_of (Timed tick (OpenData session options)) = []
rows_of (Timed tick (Take session)) = []
rows_of (Timed tick (CloseData session)) = []
rows_of (Timed tick End) = []

-- the line, where it is played: it is neither skipped nor a row
abbrev pub played_of : Line → List Line
played_of Skipped = []
played_of (Timed tick (Level target value)) = []
played_of (Timed tick (Command session text)) = Timed tick (Command session text) ∷ []
played_of (Timed tick (CloseControl session)) = Timed tick (CloseControl session) ∷ []
played_of (Timed tick (OpenData session options)) = Timed tick (OpenData session options) ∷ []
played_of (Timed tick (Take session)) = Timed tick (Take session) ∷ []
played_of (Timed tick (CloseData session)) = Timed tick (CloseData session) ∷ []
played_of (Timed tick End) = Timed tick End ∷ []

-- what is kept of a script
pub record Kept : Type 0 where
  pub rows : List Row
  pub lines : List Line

-- what is kept of these lines
abbrev pub kept : List Line → Kept
kept lines = record { rows = flat_map rows_of lines; lines = flat_map played_of lines }
