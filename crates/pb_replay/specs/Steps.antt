-- Words of private helpers: no public clause cites them.
-- The steps of a script as they are kept, as lines of the script.
use Rattle.std.specs.Prelude.{ℕ, ◌<◌, ◌≤◌, ◌^◌, List, length, slice_range}
use Rattle.pb_grammar.specs.Grammar.{IsText}
use Rattle.pb_replay.specs.declared.scripts.Span.{Span}
use Rattle.pb_replay.specs.declared.scripts.Act.{Act}
use Rattle.pb_replay.specs.declared.scripts.Act.TheVariants as acts
use Rattle.pb_replay.specs.declared.scripts.Step.{Step}
use Rattle.pb_replay.specs.Script.{Deed, Line, Timed, Command, CloseControl, OpenData, Take, CloseData, End, IsSession}

-- the text that stands there among the bytes
abbrev pub text_at : List ℕ → Span → List ℕ
text_at bytes span = slice_range bytes span.from span.to

-- what an act does
abbrev pub act_deed : List ℕ → Act → Deed
act_deed bytes (acts.Command session span) = Command session (text_at bytes span)
act_deed bytes (acts.CloseControl session) = CloseControl session
act_deed bytes (acts.OpenData session span) = OpenData session (text_at bytes span)
act_deed bytes (acts.Take session) = Take session
act_deed bytes (acts.CloseData session) = CloseData session
act_deed bytes acts.End = End

-- the line that a step is
abbrev pub step_line : List ℕ → Step → Line
step_line bytes step = Timed step.tick (act_deed bytes step.act)

-- the number of the session of an act; the end has none
abbrev pub session_of : Act → ℕ
session_of (acts.Command session span) = session
session_of (acts.CloseControl session) = session
session_of (acts.OpenData session span) = session
session_of (acts.Take session) = session
session_of (acts.CloseData session) = session
session_of acts.End = 1

-- where the text of an act stands; nowhere, where it has none
abbrev pub place_of_text : Act → Span
place_of_text (acts.Command session span) = span
place_of_text (acts.CloseControl session) = record { from = 0; to = 0 }
place_of_text (acts.OpenData session span) = span
place_of_text (acts.Take session) = record { from = 0; to = 0 }
place_of_text (acts.CloseData session) = record { from = 0; to = 0 }
place_of_text acts.End = record { from = 0; to = 0 }

-- the text stands within the bytes, and has no newline
abbrev pub IsSpan : List ℕ → Span → Type 0
IsSpan bytes span = (span.from ≤ span.to) × (span.to ≤ length bytes) × IsText (text_at bytes span)

-- a step of a script of these bytes
abbrev pub IsStep : List ℕ → Step → Type 0
IsStep bytes step =
    (step.tick < 2 ^ 62) × IsSession (session_of step.act) × IsSpan bytes (place_of_text step.act)
