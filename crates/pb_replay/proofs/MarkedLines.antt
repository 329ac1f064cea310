-- A line but the last leaves an eventful tick: its last event stands there.
use Rattle.std.proofs.Common.{◌≡◌, ℕ, Bool, true, false, List, [], ◌∷◌, ◌++◌, refl, inl, if◌then◌else◌, ◌⊎◌}
use Rattle.pb_grammar.specs.Grammar.{Said, Query, Assign, Table, Echo, Bad, command_of}
use Rattle.pb_still.specs.Eventful.{IsEventful}
use Rattle.pb_core.specs.declared.Event.{Event}
use Rattle.pb_core.specs.declared.Event.TheVariants as events
use Rattle.pb_core.specs.Answer.{CoreState, moment_of, after, after_all}
use Rattle.pb_core.specs.Sessions.{is_open, is_reading}
use Rattle.pb_replay.specs.Script.{Line, Skipped, Timed, Level, Command, CloseControl, OpenData, Take, CloseData, End}
use Rattle.pb_replay.specs.Events.{going_to, waits_of, is_whole, with_line, opened_for, sent, sent_as, at_tick, closed_for, events_of, is_last}

-- a command stands at its tick
sent_marks : (core : CoreState) (session : ℕ) (bytes : List ℕ) (said : Said) → (after core (sent_as session bytes said)).stood ≡ true
sent_marks core session bytes (Query target) = refl
sent_marks core session bytes (Assign target value) = refl
sent_marks core session bytes (Table target append base64 body) = refl
sent_marks core session bytes (Echo text) = refl
sent_marks core session bytes (Bad refusal) = refl

command_ready : (core : CoreState) (tick session : ℕ) (there whole : Bool) (bytes : List ℕ) → IsEventful (moment_of core) →
    IsEventful (moment_of (after_all core (at_tick tick (opened_for there session ++ (if whole then sent session bytes ∷ [] else [])))))
command_ready core tick session true true bytes h = inl (sent_marks (after core (going_to tick)) session bytes (command_of bytes))
command_ready core tick session true false bytes h = h
command_ready core tick session false true bytes h =
    inl (sent_marks (after (after core (going_to tick)) (events.OpenControl session)) session bytes (command_of bytes))
command_ready core tick session false false bytes h = inl refl

opened_ready : (core : CoreState) (tick session : ℕ) (options : List ℕ) (there : Bool) →
    IsEventful (moment_of (after_all core (going_to tick ∷ (closed_for there session ++ events.OpenData session options ∷ []))))
opened_ready core tick session options true = inl refl
opened_ready core tick session options false = inl refl

pub line_ready : (line : Line) (core : CoreState) (waiting : List (List ℕ)) → is_last line ≡ false → IsEventful (moment_of core) →
    IsEventful (moment_of (after_all core (events_of core waiting line)))
line_ready Skipped core waiting last h = h
line_ready (Timed tick (Level target value)) core waiting last h = h
line_ready (Timed tick (Command session text)) core waiting last h =
    command_ready core tick session (is_open core.sessions session) (is_whole (with_line (waits_of waiting session) text)) (with_line (waits_of waiting session) text) h
line_ready (Timed tick (CloseControl session)) core waiting last h = inl refl
line_ready (Timed tick (OpenData session options)) core waiting last h =
    opened_ready core tick session options (is_reading core.acquisitions session)
line_ready (Timed tick (Take session)) core waiting last h = inl refl
line_ready (Timed tick (CloseData session)) core waiting last h = inl refl
line_ready (Timed tick End) core waiting last h = absurd (cc)
