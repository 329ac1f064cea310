-- What a run of the program reads and writes, by the status with which it ends.
use Rattle.std.specs.Prelude.{◌≡◌, ℕ, ◌<◌, ◌≤◌, ◌⊎◌, List, [], ◌∷◌, ◌++◌, length, Option, Some, codes}
use Rattle.std.specs.List.{flat_map}
use Rattle.pb_ports.specs.Ports.{Takes, IsSpent, Adds}
use Rattle.panda_sim.specs.declared.statuses.Status.{Status}
use Rattle.panda_sim.specs.declared.statuses.Status.TheVariants as statuses
use Rattle.pb_stim.specs.declared.Cause.{Cause}
use Rattle.pb_replay.specs.Script.{Line, IsScript}
use Rattle.pb_replay.specs.Faults.{first_fault}
use Rattle.pb_replay.specs.Output.{output}
use Rattle.pb_replay.specs.Counting.{HasNoLimit}
use Rattle.pb_replay.specs.Events.{first_core, events_of_script}
use Rattle.pb_replay.specs.Kept.{played_of}
use Rattle.pb_replay.specs.Plays.{BreaksOff, StopsAt, Calls}

-- the words are the one word `replay`
abbrev pub IsReplay : List (List ℕ) → Type 0
IsReplay words = words ≡ codes "replay" ∷ []

-- A script was read to its end, and this holds of its lines.
pub record Replays (given left : Option (List ℕ)) (Holds : List Line → Type 0) : Type 0 where
  pub bytes : List ℕ
  pub lines : List Line
  pub taken : Takes given bytes left
  pub spent : IsSpent left
  pub script : IsScript bytes lines
  pub holds : Holds lines

-- What is written of the output of a script.

-- all of it: its events have no limit
abbrev pub PlaysAll : Option (List ℕ) → Option (List ℕ) → List Line → Type 0
PlaysAll held now lines = HasNoLimit (first_core lines) (events_of_script lines) × Adds held (output lines) now

-- what the events before the limit give
abbrev pub PlaysToLimit : ℕ → Option (List ℕ) → Option (List ℕ) → List Line → Type 0
PlaysToLimit tick held now lines = StopsAt (first_core lines) (events_of_script lines) tick held now

-- a front, of what events before the limit give
abbrev pub PlaysSome : Option (List ℕ) → Option (List ℕ) → List Line → Type 0
PlaysSome held now lines = BreaksOff (first_core lines) (events_of_script lines) held now

-- How many block calls are made for a script. The lines that count are those with a deed other than a value of the stimulus.
abbrev pub CallsOf : ℕ → ℕ → List Line → Type 0
CallsOf old new lines = Calls (first_core lines) (events_of_script lines) (length (flat_map played_of lines)) old new

-- What was read is no script: it is all of the input, or more than 16 MiB of it. This line is the first that breaks a rule, and this
-- the first rule that it breaks.
pub record ReadsNoScript (line : ℕ) (cause : Cause) (given left : Option (List ℕ)) : Type 0 where
  pub bytes : List ℕ
  pub taken : Takes given bytes left
  pub enough : IsSpent left ⊎ (16777216 < length bytes)
  pub fault : first_fault bytes ≡ Some (line, cause)

-- What a run leaves: of the input given there is this left, and the output held and holds now.
abbrev pub Leaves : Status → Option (List ℕ) → Option (List ℕ) → Option (List ℕ) → Option (List ℕ) → Type 0
-- the whole input was a script, and its output was written
Leaves statuses.Ok given left held now = Replays given left (PlaysAll held now)
-- nothing was read or written
Leaves statuses.Usage given left held now = (left ≡ given) × (now ≡ held)
-- nothing was written
Leaves (statuses.Script line cause) given left held now = ReadsNoScript line cause given left × (now ≡ held)
Leaves statuses.ReadFault given left held now = now ≡ held
-- the whole input was a script, and a front of its output was written
Leaves statuses.WriteFault given left held now = Replays given left (PlaysSome held now)
-- nothing, or a front of the output of the script
Leaves statuses.OutOfMemory given left held now = (now ≡ held) ⊎ Replays given left (PlaysSome held now)
-- the whole input was a script, and its output up to the limit was written
Leaves (statuses.EventLimit tick) given left held now = Replays given left (PlaysToLimit tick held now)
-- these are of the server alone
Leaves statuses.PortFault given left held now = ⊥
Leaves statuses.SpawnFault given left held now = ⊥

-- what a run makes: nothing where no script was read, and else this
abbrev pub Makes : Status → Type 0 → Type 0 → Type 0
Makes statuses.Ok Nothing This = This
Makes statuses.Usage Nothing This = Nothing
Makes (statuses.Script line cause) Nothing This = Nothing
Makes statuses.ReadFault Nothing This = Nothing
Makes statuses.WriteFault Nothing This = This
Makes statuses.OutOfMemory Nothing This = Nothing ⊎ This
Makes (statuses.EventLimit tick) Nothing This = This
Makes statuses.PortFault Nothing This = ⊥
Makes statuses.SpawnFault Nothing This = ⊥

-- how a run may end where the input is no script
abbrev pub EndsOnNoScript : Status → Type 0
EndsOnNoScript statuses.Ok = ⊥
EndsOnNoScript statuses.Usage = ⊥
EndsOnNoScript (statuses.Script line cause) = Unit {0}
EndsOnNoScript statuses.ReadFault = Unit {0}
EndsOnNoScript statuses.WriteFault = ⊥
EndsOnNoScript statuses.OutOfMemory = Unit {0}
EndsOnNoScript (statuses.EventLimit tick) = ⊥
EndsOnNoScript statuses.PortFault = ⊥
EndsOnNoScript statuses.SpawnFault = ⊥

-- how a run may end where the input is a script and nothing fails
abbrev pub EndsOnScript : Status → Type 0
EndsOnScript statuses.Ok = Unit {0}
EndsOnScript statuses.Usage = ⊥
EndsOnScript (statuses.Script line cause) = ⊥
EndsOnScript statuses.ReadFault = ⊥
EndsOnScript statuses.WriteFault = ⊥
EndsOnScript statuses.OutOfMemory = Unit {0}
EndsOnScript (statuses.EventLimit tick) = Unit {0}
EndsOnScript statuses.PortFault = ⊥
EndsOnScript statuses.SpawnFault = ⊥

-- What is taken of the input is at most 16 MiB and one piece of 16 KiB: the last piece is read while at
-- most 16 MiB are held.
pub record TakesUpToOnePieceMore (given left : Option (List ℕ)) : Type 0 where
  pub held : List ℕ
  pub piece : List ℕ
  pub taken : Takes given (held ++ piece) left
  pub fits : length held ≤ 16777216
  pub small : length piece ≤ 16384
