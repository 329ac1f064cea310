-- What was read and replayed, as what a run leaves and makes.
use Rattle.std.proofs.Common.{◌≡◌, ℕ, ◌+◌, ◌<◌, ◌≤◌, ◌⊎◌, List, length, Option, refl, inl, inr, arith}
use Rattle.pb_ports.specs.Ports.{Takes, IsSpent}
use Rattle.pb_replay.specs.declared.Played.{Played}
use Rattle.pb_replay.specs.declared.Played.TheVariants as plays
use Rattle.pb_replay.specs.Script.{Line, IsScript}
use Rattle.pb_replay.specs.Kept.{Kept, kept}
use Rattle.pb_replay.specs.Events.{first_core, events_of_script}
use Rattle.pb_replay.specs.Plays.{Plays, PlaysKept, CallsKept}
use Rattle.pb_replay.proofs.OutputLemmas.{plays_lines, calls_lines}
use Rattle.panda_sim.specs.declared.statuses.Status.{Status}
use Rattle.panda_sim.specs.declared.statuses.Status.TheVariants as statuses
use Rattle.panda_sim.specs.Run.{Replays, PlaysAll, PlaysToLimit, PlaysSome, CallsOf, Leaves, Makes}
use Rattle.panda_sim.specs.Replayed.{HasLines, Replayed, status_of}

-- a script isn't longer than what is read at most, so all of it was
spent_of : (bytes : List ℕ) (left : Option (List ℕ)) → length bytes ≤ 16777216 → IsSpent left ⊎ (16777216 < length bytes) → IsSpent left
spent_of bytes left size (inl h) = h
spent_of bytes left size (inr h) = absurd (omega (arith, size, h))

module _ (bytes : List ℕ) (given left : Option (List ℕ)) (taken : Takes given bytes left) (enough : IsSpent left ⊎ (16777216 < length bytes)) where
  replays : (Holds : List Line → Type 0) → HasLines bytes Holds → Replays given left Holds
  replays Holds h =
      record {
        bytes = bytes;
        lines = h.0;
        taken = taken;
        spent = spent_of bytes left h.1.size enough;
        script = h.1;
        holds = h.2;
      }

  pub leaves_of : (status : Status) (held now : Option (List ℕ)) → Replayed status bytes held now → Leaves status given left held now
  leaves_of statuses.Ok held now h = replays _ h
  leaves_of statuses.Usage held now h = absurd h
  leaves_of (statuses.Script line cause) held now h = (record { bytes = bytes; taken = taken; enough = enough; fault = h.0 }, h.1)
  leaves_of statuses.ReadFault held now h = absurd h
  leaves_of statuses.WriteFault held now h = replays _ h
  leaves_of statuses.OutOfMemory held now (inl h) = inl h
  leaves_of statuses.OutOfMemory held now (inr h) = inr (replays _ h)
  leaves_of (statuses.EventLimit tick) held now h = replays _ h
  leaves_of statuses.PortFault held now h = h
  leaves_of statuses.SpawnFault held now h = h

  pub makes_of : (status : Status) (Nothing : Type 0) (Holds : List Line → Type 0) → Makes status Nothing (HasLines bytes Holds) → Makes status Nothing (Replays given left Holds)
  makes_of statuses.Ok Nothing Holds h = replays Holds h
  makes_of statuses.Usage Nothing Holds h = h
  makes_of (statuses.Script line cause) Nothing Holds h = h
  makes_of statuses.ReadFault Nothing Holds h = h
  makes_of statuses.WriteFault Nothing Holds h = replays Holds h
  makes_of statuses.OutOfMemory Nothing Holds (inl h) = inl h
  makes_of statuses.OutOfMemory Nothing Holds (inr h) = inr (replays Holds h)
  makes_of (statuses.EventLimit tick) Nothing Holds h = replays Holds h
  makes_of statuses.PortFault Nothing Holds h = h
  makes_of statuses.SpawnFault Nothing Holds h = h

-- What playing a script leaves and costs.

-- the bytes are the script of which this is kept
abbrev IsKeptOf : List ℕ → Kept → Type 0
IsKeptOf bytes script = (lines : List Line) × IsScript bytes lines × (script ≡ kept lines)

has_lines : (bytes : List ℕ) (script : Kept) (end : Played) (held now : Option (List ℕ)) (Holds : List Line → Type 0) →
    ((lines : List Line) → Plays (first_core lines) (events_of_script lines) end held now → Holds lines) → IsKeptOf bytes script → PlaysKept script end held now → HasLines bytes Holds
has_lines bytes script end held now Holds leads k h = (k.0, k.1, leads k.0 (plays_lines script k.0 end held now k.2 h))

pub replayed_of : (bytes : List ℕ) (script : Kept) (end : Played) (held now : Option (List ℕ)) → IsKeptOf bytes script → PlaysKept script end held now →
    Replayed (status_of end) bytes held now
replayed_of bytes script plays.Ok held now k h = has_lines bytes script plays.Ok held now (PlaysAll held now) (λ lines p. p) k h
replayed_of bytes script plays.WriteFault held now k h = has_lines bytes script plays.WriteFault held now (PlaysSome held now) (λ lines p. p) k h
replayed_of bytes script plays.OutOfMemory held now k h = inr (has_lines bytes script plays.OutOfMemory held now (PlaysSome held now) (λ lines p. p) k h)
replayed_of bytes script (plays.EventLimit tick) held now k h =
    has_lines bytes script (plays.EventLimit tick) held now (PlaysToLimit tick held now) (λ lines p. p) k h

calls_of : (bytes : List ℕ) (script : Kept) (old new : ℕ) → IsKeptOf bytes script → CallsKept script old new → HasLines bytes (CallsOf old new)
calls_of bytes script old new k h = (k.0, k.1, calls_lines script k.0 old new k.2 h)

pub played_makes : (bytes : List ℕ) (script : Kept) (end : Played) (old new : ℕ) → IsKeptOf bytes script → CallsKept script old new →
    Makes (status_of end) (new ≡ old) (HasLines bytes (CallsOf old new))
played_makes bytes script plays.Ok old new k h = calls_of bytes script old new k h
played_makes bytes script plays.WriteFault old new k h = calls_of bytes script old new k h
played_makes bytes script plays.OutOfMemory old new k h = inr (calls_of bytes script old new k h)
played_makes bytes script (plays.EventLimit tick) old new k h = calls_of bytes script old new k h

-- a write failed where one did
pub wrote : (end : Played) → status_of end ≡ statuses.WriteFault → end ≡ plays.WriteFault
wrote plays.Ok e = cc
wrote plays.WriteFault e = refl
wrote plays.OutOfMemory e = cc
wrote (plays.EventLimit tick) e = cc
