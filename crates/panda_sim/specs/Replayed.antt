-- Words of private helpers: no public clause cites them.
-- What replaying some bytes leaves, by how it ends.
use Rattle.std.specs.Prelude.{◌≡◌, ℕ, ◌⊎◌, List, [], ◌∷◌, Option, Some}
use Rattle.pb_replay.specs.Script.{Line, IsScript}
use Rattle.pb_replay.specs.Faults.{first_fault}
use Rattle.pb_replay.specs.declared.Played.{Played}
use Rattle.pb_replay.specs.declared.Played.TheVariants as plays
use Rattle.panda_sim.specs.declared.statuses.Status.{Status}
use Rattle.panda_sim.specs.declared.statuses.Status.TheVariants as statuses
use Rattle.panda_sim.specs.Run.{PlaysAll, PlaysToLimit, PlaysSome}

-- the first of the words is this one
abbrev pub BeginWith : List ℕ → List (List ℕ) → Type 0
BeginWith word [] = ⊥
BeginWith word (first ∷ more) = first ≡ word

-- the bytes are a script, and this holds of its lines
abbrev pub HasLines : List ℕ → (List Line → Type 0) → Type 0
HasLines bytes Holds = (lines : List Line) × IsScript bytes lines × Holds lines

-- what replaying these bytes leaves
abbrev pub Replayed : Status → List ℕ → Option (List ℕ) → Option (List ℕ) → Type 0
Replayed statuses.Ok bytes held now = HasLines bytes (PlaysAll held now)
Replayed statuses.Usage bytes held now = ⊥
Replayed (statuses.Script line cause) bytes held now = (first_fault bytes ≡ Some (line, cause)) × (now ≡ held)
Replayed statuses.ReadFault bytes held now = ⊥
Replayed statuses.WriteFault bytes held now = HasLines bytes (PlaysSome held now)
Replayed statuses.OutOfMemory bytes held now = (now ≡ held) ⊎ HasLines bytes (PlaysSome held now)
Replayed (statuses.EventLimit tick) bytes held now = HasLines bytes (PlaysToLimit tick held now)
Replayed statuses.PortFault bytes held now = ⊥
Replayed statuses.SpawnFault bytes held now = ⊥

-- how a run ends, by how playing its script does
abbrev pub status_of : Played → Status
status_of plays.Ok = statuses.Ok
status_of plays.WriteFault = statuses.WriteFault
status_of plays.OutOfMemory = statuses.OutOfMemory
status_of (plays.EventLimit tick) = statuses.EventLimit tick

-- how a run that has no input may end
abbrev pub EndsUnread : Status → Type 0
EndsUnread statuses.Ok = Unit {0}
EndsUnread statuses.Usage = Unit {0}
EndsUnread (statuses.Script line cause) = ⊥
EndsUnread statuses.ReadFault = ⊥
EndsUnread statuses.WriteFault = Unit {0}
EndsUnread statuses.OutOfMemory = Unit {0}
EndsUnread (statuses.EventLimit tick) = Unit {0}
EndsUnread statuses.PortFault = ⊥
EndsUnread statuses.SpawnFault = ⊥
