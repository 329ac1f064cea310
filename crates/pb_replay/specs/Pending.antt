-- Words of private helpers: no public clause cites them.
-- Sections that are put together before they are written.
use Rattle.std.specs.Prelude.{◌≡◌, ℕ, Bool, true, false, List, ◌++◌, Option}
use Rattle.pb_ports.specs.Ports.{Adds}
use Rattle.pb_core.specs.declared.Answer.{Answer}
use Rattle.pb_core.specs.declared.Answer.TheVariants as answers
use Rattle.pb_going.specs.declared.Why.TheVariants as whys
use Rattle.pb_core.specs.declared.Event.{Event}
use Rattle.pb_core.specs.declared.Event.TheVariants as events
use Rattle.pb_replay.specs.declared.played.Played.{Played}
use Rattle.pb_replay.specs.declared.played.Played.TheVariants as plays
use Rattle.pb_replay.specs.declared.played.Told.{Told}
use Rattle.pb_replay.specs.declared.played.Told.TheVariants as ends
use Rattle.pb_replay.specs.Plays.{AddsFront}

-- of the bytes that were still to be written some front is, and the rest is still to be
abbrev pub Moves : List ℕ → Option (List ℕ) → List ℕ → Option (List ℕ) → Type 0
Moves bytes old pending new = (front : List ℕ) × (bytes ≡ front ++ pending) × Adds old front new

-- These bytes come behind those that are still to be written; where telling breaks off some front of all is written.
abbrev pub PlaysOn : List ℕ → Told → List ℕ → Option (List ℕ) → List ℕ → Option (List ℕ) → Type 0
PlaysOn bytes ends.Ok before old pending new = Moves (before ++ bytes) old pending new
PlaysOn bytes ends.WriteFault before old pending new = AddsFront old (before ++ bytes) new
PlaysOn bytes ends.OutOfMemory before old pending new = AddsFront old (before ++ bytes) new

-- all of these bytes are added, or where telling breaks off some front of them
abbrev pub AreWritten : List ℕ → Told → Option (List ℕ) → Option (List ℕ) → Type 0
AreWritten bytes ends.Ok old new = Adds old bytes new
AreWritten bytes ends.WriteFault old new = AddsFront old bytes new
AreWritten bytes ends.OutOfMemory old new = AddsFront old bytes new

-- how playing goes on by how telling did
abbrev pub played_of : Told → Played
played_of ends.Ok = plays.Ok
played_of ends.WriteFault = plays.WriteFault
played_of ends.OutOfMemory = plays.OutOfMemory

-- so it is with the bytes of a line that is played; of one that comes to the limit nothing is said here
abbrev pub PlaysLine : List ℕ → Played → List ℕ → Option (List ℕ) → List ℕ → Option (List ℕ) → Type 0
PlaysLine bytes plays.Ok before old pending new = PlaysOn bytes ends.Ok before old pending new
PlaysLine bytes plays.WriteFault before old pending new = PlaysOn bytes ends.WriteFault before old pending new
PlaysLine bytes plays.OutOfMemory before old pending new = PlaysOn bytes ends.OutOfMemory before old pending new
PlaysLine bytes (plays.EventLimit tick) before old pending new = Unit {0}

-- nothing was written or put together to be written
abbrev pub IsSilent : List ℕ → Option (List ℕ) → List ℕ → Option (List ℕ) → Type 0
IsSilent before old pending new = (pending ≡ before) × (new ≡ old)

-- at the limit these bytes are added, or where that breaks off some front of them
abbrev pub IsStopped : ℕ → List ℕ → Played → Option (List ℕ) → Option (List ℕ) → Type 0
IsStopped tick bytes plays.Ok old new = ⊥
IsStopped tick bytes (plays.EventLimit at) old new = (at ≡ tick) × Adds old bytes new
IsStopped tick bytes plays.WriteFault old new = AddsFront old bytes new
IsStopped tick bytes plays.OutOfMemory old new = AddsFront old bytes new

-- an advance went on: no memory was wanting
abbrev pub goes_on : Answer → Bool
goes_on (answers.Reached tick whys.Target) = true
goes_on (answers.Reached tick whys.Events) = true
goes_on told = false

-- an event of which no session is told, other than an advance
abbrev pub IsQuiet : Event → Type 0
IsQuiet (events.OpenControl id) = Unit {0}
IsQuiet (events.CloseControl id) = Unit {0}
IsQuiet (events.CloseData id) = Unit {0}
IsQuiet event = ⊥

-- an event of which a session is told
abbrev pub IsAnswered : Event → Type 0
IsAnswered (events.Line id text) = Unit {0}
IsAnswered (events.Bad id refusal) = Unit {0}
IsAnswered (events.OpenData id options) = Unit {0}
IsAnswered (events.Take id) = Unit {0}
IsAnswered event = ⊥
