-- The events of a script. A line that does something takes the box to its tick, and then has its own events there. Which these are
-- depends on the sessions that are open, and at the end on what readers have still to take: so the events of a script go from core
-- to core.
use Rattle.std.specs.Prelude.{ℕ, zero, suc, ◌-◌, ◌^◌, Bool, true, false, List, [], ◌∷◌, ◌++◌, replicate, slice_index_or, slice_set, if◌then◌else◌}
use Rattle.std.specs.List.{flat_map}
use Rattle.pb_grammar.specs.Grammar.{Said, Bad, command_of}
pub use Rattle.pb_grammar.specs.Streams.{is_whole, with_line, left_waiting}
use Rattle.pb_core.specs.declared.Answer.{Answer}
use Rattle.pb_core.specs.declared.Answer.TheVariants as answers
use Rattle.pb_core.specs.declared.Event.{Event}
use Rattle.pb_core.specs.declared.Event.TheVariants as events
use Rattle.pb_core.specs.Answer.{CoreState, opening, answer, after, after_all}
use Rattle.pb_core.specs.Sessions.{is_open, is_reading, session_ids}
use Rattle.pb_replay.specs.Script.{Line, Skipped, Timed, Level, Command, CloseControl, OpenData, Take, CloseData, End, is_end}
use Rattle.pb_replay.specs.Kept.{rows_of}

-- What waits. Most commands are one line of their session. A table write is several: the line that opens it, those of its body and an
-- empty one. So for each of the control sessions 1 to 8 the bytes that it has sent wait until they are one whole command.

abbrev pub nothing_waits : List (List ℕ)
nothing_waits = replicate 8 []

-- what waits of a session
abbrev pub waits_of : List (List ℕ) → ℕ → List ℕ
waits_of waiting session = slice_index_or waiting (session - 1) []

abbrev pub with_waiting : ℕ → List ℕ → List (List ℕ) → List (List ℕ)
with_waiting session bytes waiting = slice_set waiting (session - 1) bytes

-- What waits after a line of the script. A session that closes forgets what it has sent of a command.
abbrev pub waits_after : List (List ℕ) → Line → List (List ℕ)
waits_after waiting (Timed tick (Command session text)) =
    with_waiting session (left_waiting (waits_of waiting session) text) waiting
waits_after waiting (Timed tick (CloseControl session)) = with_waiting session [] waiting
waits_after waiting line = waiting

-- A line of a control session.

-- the event of a whole command that says this: a command that is refused for its form comes as its refusal
abbrev pub sent_as : ℕ → List ℕ → Said → Event
sent_as session bytes (Bad refusal) = events.Bad session refusal
sent_as session bytes said = events.Line session bytes

-- the event of a whole command of a session
abbrev pub sent : ℕ → List ℕ → Event
sent session bytes = sent_as session bytes (command_of bytes)

-- the session opens, if it isn't open
abbrev pub opened_for : Bool → ℕ → List Event
opened_for is_there session = if is_there then [] else events.OpenControl session ∷ []

-- and sends the command that the line completes, if it completes one
abbrev pub sent_with : ℕ → List ℕ → List ℕ → List Event
sent_with session waiting text =
    if is_whole (with_line waiting text) then sent session (with_line waiting text) ∷ [] else []

-- The box goes to a tick, over whatever happens on the way: there are fewer ticks than so many.
abbrev pub going_to : ℕ → Event
going_to tick = events.Advance tick (2 ^ 62)

-- It does so before what happens there. Where nothing does it doesn't go.
abbrev pub at_tick : ℕ → List Event → List Event
at_tick tick [] = []
at_tick tick (event ∷ more) = going_to tick ∷ event ∷ more

-- Data sessions.

-- the session closes, if it is open
abbrev pub closed_for : Bool → ℕ → List Event
closed_for is_there session = if is_there then events.CloseData session ∷ [] else []

-- a piece is handed out
abbrev pub is_piece : Answer → Bool
is_piece (answers.Piece text) = true
is_piece told = false

-- A data session takes until it is handed no piece: there is none yet, or none any more. So many times it takes at most.
abbrev pub takes_up_to : ℕ → CoreState → ℕ → List Event
takes_up_to zero core session = []
takes_up_to (suc n) core session =
    events.Take session ∷
    (if is_piece (answer core (events.Take session))
    then takes_up_to n (after core (events.Take session)) session
    else [])

-- More times than there can be pieces: an acquisition has a header, at most 64 MiB of records, and an end.
unfoldable pub most_takes : ℕ
most_takes = 2 ^ 64 - 1

-- the session does, if it is open
abbrev pub takes_of : CoreState → ℕ → List Event
takes_of core session =
    if is_reading core.acquisitions session then takes_up_to most_takes core session else []

-- so do these sessions, one after the other
abbrev pub takes_of_all : CoreState → List ℕ → List Event
takes_of_all core [] = []
takes_of_all core (session ∷ sessions) =
    takes_of core session ++ takes_of_all (after_all core (takes_of core session)) sessions

-- Lines.

-- The events of a line of the script, in this core and where this waits.
abbrev pub events_of : CoreState → List (List ℕ) → Line → List Event
events_of core waiting Skipped = []
events_of core waiting (Timed tick (Level target value)) = []
events_of core waiting (Timed tick (Command session text)) =
    at_tick tick (opened_for (is_open core.sessions session) session ++ sent_with session (waits_of waiting session) text)
events_of core waiting (Timed tick (CloseControl session)) = going_to tick ∷ events.CloseControl session ∷ []
events_of core waiting (Timed tick (OpenData session options)) =
    going_to tick ∷ (closed_for (is_reading core.acquisitions session) session ++ events.OpenData session options ∷ [])
events_of core waiting (Timed tick (Take session)) = going_to tick ∷ events.Take session ∷ []
events_of core waiting (Timed tick (CloseData session)) = going_to tick ∷ events.CloseData session ∷ []
events_of core waiting (Timed tick End) =
    going_to tick ∷ takes_of_all (after core (going_to tick)) session_ids

-- the line is the end of the script
abbrev pub is_last : Line → Bool
is_last Skipped = false
is_last (Timed tick deed) = is_end deed

-- The events of these lines, one after the other, up to the end of the script: what still waits there is no event.
abbrev pub events_from : CoreState → List (List ℕ) → List Line → List Event
events_from core waiting [] = []
events_from core waiting (line ∷ lines) =
    events_of core waiting line
    ++ (if is_last line
    then []
    else events_from (after_all core (events_of core waiting line)) (waits_after waiting line) lines)

-- the core in which a script begins: the rows of its stimulus are there from the first line on
abbrev pub first_core : List Line → CoreState
first_core lines = opening (flat_map rows_of lines)

-- the events of a script
abbrev pub events_of_script : List Line → List Event
events_of_script lines = events_from (first_core lines) nothing_waits lines
