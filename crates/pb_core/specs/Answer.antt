-- One event: what it answers, and what it leaves.
use Rattle.std.specs.Prelude.{◌≡◌, ℕ, ◌-◌, ◌<◌, ◌≤◌, ◌^◌, Bool, if◌then◌else◌, max, List, [], ◌∷◌, Option, Some, None, Result, Ok, Err, codes}
use Rattle.pb_words.specs.declared.Refusal.{Refusal}
use Rattle.pb_words.specs.Refusals.{line_of}
use Rattle.pb_grammar.specs.Grammar.{Said, Query, Assign, Table, Echo, Bad, command_of}
use Rattle.pb_replies.specs.Replies.{value_reply}
use Rattle.pb_core.specs.declared.events.Event.{Event}
use Rattle.pb_core.specs.declared.events.Event.TheVariants as events
use Rattle.pb_core.specs.declared.events.Answer.{Answer}
use Rattle.pb_core.specs.declared.events.Answer.TheVariants as answers
use Rattle.pb_model.specs.Tick.{Standing}
use Rattle.pb_config.specs.Settings.{Settings}
use Rattle.pb_still.specs.Eventful.{Run}
use Rattle.pb_going.specs.Advanced.{EndsBy}
use Rattle.pb_going.specs.declared.Why.{Why}
pub use Rattle.pb_core.specs.Core.{CoreState, opening, moment_of, marked, with_sessions, with_acquisitions, ticks_of_core}
use Rattle.pb_changes.specs.declared.Group.{Group}
use Rattle.pb_changes.specs.Report as changes
use Rattle.pb_core.specs.Sessions.{IsSession, is_open, open_of, with_session, told_if_open, opened_answer, opened_by, taken_answer}
use Rattle.pb_encode.specs.Choosing.{options_of}
use Rattle.pb_acquire.specs.Taking.{closed, after_take}
use Rattle.pb_going.specs.declared.Why.TheVariants as whys
use Rattle.pb_acquire.specs.Acquisitions.{AllAcquisitions}
use Rattle.pb_core.specs.Naming.{named_by}
use Rattle.pb_core.specs.declared.targets.Named.{Named}
use Rattle.pb_core.specs.declared.targets.Named.TheVariants as names
use Rattle.pb_core.specs.Queries.{query_reply}
use Rattle.pb_core.specs.Assignments.{Deed, with_deed, assignment}
use Rattle.pb_core.specs.Writing.{Written, with_written, table_write}
use Rattle.pb_core.specs.Telling.{reports_to, after_telling}

-- Commands.

-- a reply, or a refusal
abbrev pub replied : Result (List ℕ) Refusal → Answer
replied (Ok reply) = answers.Reply reply
replied (Err refusal) = answers.Error refusal

-- that it is done, or a refusal
abbrev pub done : {X : Type 0} → Result X Refusal → Answer
done (Ok new) = answers.Ok
done (Err refusal) = answers.Error refusal

-- the core where a session did this, or as it was
abbrev pub left_by : CoreState → ℕ → Result Deed Refusal → CoreState
left_by core id (Ok deed) = with_deed core id deed
left_by core id (Err refusal) = core

-- the core where a table write left these words, or as it was
abbrev pub written_by : CoreState → Result Written Refusal → CoreState
written_by core (Ok new) = with_written core new
written_by core (Err refusal) = core

-- the command is the query of a change report: of a group, or of all
abbrev pub AsksForReport : Said → Option Group → Type 0
AsksForReport said group = (target : List ℕ) × (said ≡ Query target) × (named_by target ≡ Ok (names.Changes group))

-- the core after the query of what is named: what was reported counts as told
abbrev pub asked_of : CoreState → ℕ → Result Named Refusal → CoreState
asked_of core id (Ok (names.Changes group)) = after_telling core id group
asked_of core id named = core

-- the answer to a command, by the settings, what stands in the box, which control sessions are open, the acquisitions, and
-- the reports to the session
abbrev pub said_answer : Settings → Standing → List Bool → AllAcquisitions → (Option Group → List ℕ) → Said → Answer
said_answer settings box is_open_at all reports (Query target) = replied (query_reply settings box is_open_at all reports target)
said_answer settings box is_open_at all reports (Assign target value) = done (assignment settings all target value)
said_answer settings box is_open_at all reports (Table target append base64 body) = done (table_write box target append base64 body)
said_answer settings box is_open_at all reports (Echo text) = answers.Reply (value_reply text)
said_answer settings box is_open_at all reports (Bad refusal) = answers.Error refusal

-- The core after a command of a session: an assignment or a table write that is accepted changes it, and of a query a report
-- changes what was reported to the session.
abbrev pub said_after : CoreState → ℕ → Said → CoreState
said_after core id (Query target) = asked_of core id (named_by target)
said_after core id (Assign target value) = left_by core id (assignment core.settings core.acquisitions target value)
said_after core id (Table target append base64 body) =
    written_by core (table_write core.box.stands target append base64 body)
said_after core id (Echo text) = core
said_after core id (Bad refusal) = core

-- Events.

-- the core after the ticks up to this one; a tick below now changes nothing
abbrev pub advanced : CoreState → ℕ → CoreState
advanced core to = ticks_of_core (to - core.box.stands.tick) core

-- What may happen: sessions have the ids 1 to 8, and the box goes to a tick below 2^62, over at least one eventful tick if there
-- is one.
abbrev pub CanHappen : Event → Type 0
CanHappen (events.OpenControl id) = IsSession id
CanHappen (events.Line id text) = IsSession id
CanHappen (events.Bad id refusal) = IsSession id
CanHappen (events.CloseControl id) = IsSession id
CanHappen (events.OpenData id options) = IsSession id
CanHappen (events.Take id) = IsSession id
CanHappen (events.CloseData id) = IsSession id
CanHappen (events.Advance to most) = (to < 2 ^ 62) × (1 ≤ most)

-- what a command of a session that is open is answered
abbrev pub line_answer : CoreState → ℕ → Said → Answer
line_answer core id said =
    said_answer core.settings core.box.stands (open_of core.sessions) core.acquisitions (reports_to core id) said

-- What an event is answered. A command, also one that was refused as it was put together, is answered to an open session
-- alone. Of an advance it is the answer where its eventful ticks don't end it.
abbrev pub answer : CoreState → Event → Answer
answer core (events.OpenControl id) = answers.Nothing
answer core (events.Line id text) = told_if_open (is_open core.sessions id) (line_answer core id (command_of text))
answer core (events.Bad id refusal) = told_if_open (is_open core.sessions id) (answers.Error refusal)
answer core (events.CloseControl id) = answers.Nothing
answer core (events.OpenData id options) = opened_answer (options_of options)
answer core (events.Take id) = taken_answer core.acquisitions id
answer core (events.CloseData id) = answers.Nothing
answer core (events.Advance to most) = answers.Reached (max core.box.stands.tick to) whys.Target

-- the core after a command of a session: only one that is open changes it
abbrev pub left_if_open : CoreState → ℕ → Said → CoreState
left_if_open core id said = if is_open core.sessions id then said_after core id said else core

-- what an event does, but for the mark
abbrev pub done_by : CoreState → Event → CoreState
done_by core (events.OpenControl id) = with_sessions core (with_session id (Some changes.opening) core.sessions)
done_by core (events.Line id text) = left_if_open core id (command_of text)
done_by core (events.Bad id refusal) = core
done_by core (events.CloseControl id) = with_sessions core (with_session id None core.sessions)
done_by core (events.OpenData id options) = with_acquisitions core (opened_by id (options_of options) core.acquisitions)
done_by core (events.Take id) = with_acquisitions core (after_take id core.acquisitions)
done_by core (events.CloseData id) = with_acquisitions core (closed id core.acquisitions)
done_by core (events.Advance to most) = advanced core to

-- an event other than an advance stands at its tick, also where it is refused
abbrev pub with_mark : Event → CoreState → CoreState
with_mark (events.Advance to most) core = core
with_mark event core = marked core

-- the core after an event
abbrev pub after : CoreState → Event → CoreState
after core event = with_mark event (done_by core event)

-- the core after these events, one after the other
abbrev pub after_all : CoreState → List Event → CoreState
after_all core [] = core
after_all core (event ∷ rest) = after_all (after core event) rest

-- the bytes that a session writes for an answer
abbrev pub bytes_of : Answer → List ℕ
bytes_of answers.Ok = codes "OK\n"
bytes_of (answers.Reply text) = text
bytes_of (answers.Error refusal) = line_of refusal
bytes_of (answers.Opened status) = if status then codes "OK\n" else []
bytes_of (answers.Piece text) = text
bytes_of _ = []

-- Want of memory.

abbrev pub IsReply : Answer → Type 0
IsReply (answers.Reply text) = Unit {0}
IsReply _ = ⊥

-- an assignment that is answered so arms an acquisition
abbrev pub Arms : List ℕ → Answer → Type 0
Arms target told = (named_by target ≡ Ok names.Arming) × (told ≡ answers.Ok)

-- The answers that may lack memory: a reply, that an acquisition is armed, and a piece.
abbrev pub MayLack : Said → Answer → Type 0
MayLack (Assign target value) told = Arms target told
MayLack said told = IsReply told

abbrev pub IsPiece : Answer → Type 0
IsPiece (answers.Piece text) = Unit {0}
IsPiece _ = ⊥

abbrev pub EventMayLack : Event → Answer → Type 0
EventMayLack (events.Line id text) told = MayLack (command_of text) told
EventMayLack (events.Take id) told = IsPiece told
EventMayLack event told = ⊥

-- An advance from now to a tick, over at most so many eventful ticks, ends at this tick for this reason: it is at its target; or
-- it has stepped as many eventful ticks, and the next is eventful too; or there is no memory for the record that the next
-- tick emits, which it would have stepped.
pub record Reaches (core : CoreState) (to most tick : ℕ) (why : Why) : Type 0 where
  pub from_now : core.box.stands.tick ≤ tick
  pub within : tick ≤ to
  pub eventful : ℕ
  pub busy : ℕ
  pub run : Run (tick - core.box.stands.tick) (moment_of core) eventful busy
  pub few : eventful ≤ most
  pub ends : EndsBy why (moment_of (advanced core tick)) to most eventful

-- What an event may be answered. The target of an advance is no tick below now.
abbrev pub IsTold : CoreState → Event → Answer → Type 0
IsTold core (events.Advance to most) (answers.Reached tick why) =
    Reaches core (max core.box.stands.tick to) most tick why
IsTold core (events.Advance to most) told = ⊥
IsTold core event told = told ≡ answer core event

-- the core after an event that was answered so
abbrev pub after_told : CoreState → Event → Answer → CoreState
after_told core (events.Advance to most) (answers.Reached tick why) = advanced core tick
after_told core event told = after core event
