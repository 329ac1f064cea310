-- The output of a script: the answers to its events, each as a section.
use Rattle.std.specs.Prelude.{ℕ, ◌==◌, List, [], ◌∷◌, ◌++◌, length, codes, decimal, Option, Some, None, if◌then◌else◌}
use Rattle.std.specs.Option.{option_map_or}
use Rattle.pb_core.specs.declared.Event.{Event}
use Rattle.pb_core.specs.declared.Event.TheVariants as events
use Rattle.pb_core.specs.Answer.{CoreState, answer, after, bytes_of}
use Rattle.pb_replay.specs.declared.sections.Port.{Port}
use Rattle.pb_replay.specs.declared.sections.Port.TheVariants as ports
use Rattle.pb_replay.specs.Script.{Line}
use Rattle.pb_replay.specs.Events.{first_core, events_of_script}

-- the letter of a port, between spaces
abbrev pub port_text : Port → List ℕ
port_text ports.Control = codes " C "
port_text ports.Data = codes " D "

-- The section of an answer that a session gets at a tick: a head line with the tick, the port, the session and the number of bytes, and
-- then these bytes. An answer of no bytes has none.
abbrev pub section : ℕ → Port → ℕ → List ℕ → List ℕ
section tick port session bytes =
    if length bytes == 0
    then []
    else decimal tick ++ port_text port ++ decimal session ++ codes " " ++ decimal (length bytes) ++ codes "\n" ++ bytes

-- a session of a port
pub record Receiver : Type 0 where
  pub port : Port
  pub session : ℕ

-- the session that is told what its event is answered, if any
abbrev pub receiver_of : Event → Option Receiver
receiver_of (events.Line id text) = Some (record { port = ports.Control; session = id })
receiver_of (events.Bad id refusal) = Some (record { port = ports.Control; session = id })
receiver_of (events.OpenData id options) = Some (record { port = ports.Data; session = id })
receiver_of (events.Take id) = Some (record { port = ports.Data; session = id })
receiver_of event = None

-- what is written for an event in a core
abbrev pub written : CoreState → Event → List ℕ
written core event =
    option_map_or (λ to. section core.box.stands.tick to.port to.session (bytes_of (answer core event))) (receiver_of event) []

-- what is written for these events, one after the other
abbrev pub sections : CoreState → List Event → List ℕ
sections core [] = []
sections core (event ∷ more) = written core event ++ sections (after core event) more

-- the whole output of a script
abbrev pub output : List Line → List ℕ
output lines = sections (first_core lines) (events_of_script lines)
