-- Control sessions: which events a client's bytes become, and what is written for them.
use Rattle.std.specs.Prelude.{◌≡◌, ⊤, ℕ, ◌⊎◌, List, [], ◌∷◌, ◌++◌, Option, Result, Ok, Err}
use Rattle.std.specs.List.{flat_map}
use Rattle.pb_words.specs.declared.OutOfMemory.{OutOfMemory}
use Rattle.pb_words.specs.declared.Refusal.TheVariants as refusals
use Rattle.pb_words.specs.Refusals.{line_of}
use Rattle.pb_ports.specs.Ports.{Takes, IsSpent}
use Rattle.pb_ports.specs.Ports as ports
use Rattle.pb_turn.specs.Seeing.{Known}
use Rattle.pb_grammar.specs.Grammar.{Said, Bad, command_of}
use Rattle.pb_grammar.specs.Streams.{Commands}
use Rattle.pb_core.specs.declared.Event.{Event}
use Rattle.pb_core.specs.declared.Event.TheVariants as events
use Rattle.pb_core.specs.declared.Answer.{Answer}
use Rattle.pb_core.specs.declared.Answer.TheVariants as answers
use Rattle.pb_core.specs.declared.Entry.{Entry}
use Rattle.pb_core.specs.Answer.{CoreState, bytes_of}
use Rattle.pb_session.specs.declared.endings.Ended.{Ended}
use Rattle.pb_session.specs.declared.endings.Ended.TheVariants as endings
use Rattle.pb_session.specs.Calls.{Adds, entry}

-- Commands.

-- the event of a whole command that says this: a command that is refused for its form comes as its refusal
abbrev pub sent_as : ℕ → List ℕ → Said → Event
sent_as id bytes (Bad refusal) = events.Bad id refusal
sent_as id bytes said = events.Line id bytes

-- the event of a whole command of a session
abbrev pub sent : ℕ → List ℕ → Event
sent id bytes = sent_as id bytes (command_of bytes)

abbrev pub IsLine : Event → Type 0
IsLine (events.Line id text) = ⊤
IsLine event = ⊥

-- The event of a command, or a refusal for want of memory in the place of a line.
abbrev pub IsSent : ℕ → List ℕ → Event → Type 0
IsSent id command event =
    (event ≡ sent id command) ⊎ (IsLine (sent id command) × (event ≡ events.Bad id refusals.OutOfMemory))

-- These commands became these entries, one each, in their order.
abbrev pub AreSent : ℕ → List (List ℕ) → List Entry → Type 0
AreSent id [] [] = ⊤
AreSent id (command ∷ commands) (done ∷ entries) = IsSent id command done.event × AreSent id commands entries
AreSent id commands entries = ⊥

-- Answers.

-- what is written for what came of a command
abbrev pub told : Result Answer OutOfMemory → List ℕ
told (Ok answer) = bytes_of answer
told (Err lack) = line_of refusals.OutOfMemory

-- what is written for these, one after the other
abbrev pub told_of : List Entry → List ℕ
told_of entries = flat_map (λ done. told done.result) entries

-- a front of these bytes is added to what is held, where that is told
abbrev pub AddsFront : Option (List ℕ) → List ℕ → Option (List ℕ) → Type 0
AddsFront held bytes new = (front : List ℕ) × (rest : List ℕ) × (bytes ≡ front ++ rest) × ports.Adds held front new

-- Sessions.

abbrev pub opens : ℕ → Entry
opens id = entry (events.OpenControl id) (Ok answers.Nothing)

abbrev pub closes : ℕ → Entry
closes id = entry (events.CloseControl id) (Ok answers.Nothing)

-- what a session adds that did this
abbrev pub session_of : ℕ → List Entry → List Entry
session_of id done = opens id ∷ (done ++ closes id ∷ [])

-- What a session did. Of the bytes that it read it looked at a front. Each whole command in that front is an event, and
-- these are the calls that it added.
pub record Did {V : Type 0} (calls : List Entry → List Entry) (opening : V → CoreState) (id : ℕ) (pass new : Known Entry V) (left rest : Option (List ℕ)) : Type 0 where
  pub looked : List ℕ
  pub behind : List ℕ
  pub commands : List (List ℕ)
  pub begun : List ℕ
  pub done : List Entry
  pub read : Takes left (looked ++ behind) rest
  pub are : Commands looked commands begun
  pub sent : AreSent id commands done
  pub adds : Adds opening pass new (calls done)

-- What a session did by its ending. It looked at all that it read, and wrote what was told, unless a write failed: then it
-- wrote a front. It ends as closed where nothing is left to read.
abbrev pub HasEnded : {V : Type 0} → (List Entry → List Entry) → (V → CoreState) → ℕ → Known Entry V → Ended → Known Entry V
    → Option (List ℕ) → Option (List ℕ) → Option (List ℕ) → Option (List ℕ) → Type 0
HasEnded calls opening id pass endings.Closed new left rest held holds =
    (did : Did calls opening id pass new left rest) × (did.behind ≡ []) × IsSpent rest × ports.Adds held (told_of did.done) holds
HasEnded calls opening id pass endings.ReadFault new left rest held holds =
    (did : Did calls opening id pass new left rest) × (did.behind ≡ []) × ports.Adds held (told_of did.done) holds
HasEnded calls opening id pass endings.WriteFault new left rest held holds =
    (did : Did calls opening id pass new left rest) × AddsFront held (told_of did.done) holds
HasEnded calls opening id pass endings.NoMemory new left rest held holds =
    (new ≡ pass) × (rest ≡ left) × (holds ≡ held)
