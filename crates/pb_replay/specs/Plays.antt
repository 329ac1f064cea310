-- What playing a script writes and costs, by how it ends.
use Rattle.std.specs.Prelude.{◌≡◌, ℕ, ◌+◌, ◌*◌, ◌<◌, ◌≤◌, List, ◌++◌, length, Option}
use Rattle.pb_ports.specs.Ports.{Adds}
use Rattle.pb_core.specs.declared.Event.{Event}
use Rattle.pb_core.specs.Answer.{CoreState, opening}
use Rattle.pb_replay.specs.declared.played.Played.{Played}
use Rattle.pb_replay.specs.declared.played.Played.TheVariants as plays
use Rattle.pb_replay.specs.Kept.{Kept}
use Rattle.pb_replay.specs.Events.{events_from, nothing_waits}
use Rattle.pb_replay.specs.Output.{sections}
use Rattle.pb_replay.specs.Counting.{Counted, limit, IsLimit, HasNoLimit, IsCountedPart}

-- the events of a script of which this is kept
abbrev pub kept_events : Kept → List Event
kept_events script = events_from (opening script.rows) nothing_waits script.lines

-- some front of these bytes is added
abbrev pub AddsFront : Option (List ℕ) → List ℕ → Option (List ℕ) → Type 0
AddsFront old bytes new = (front : List ℕ) × (rest : List ℕ) × (bytes ≡ front ++ rest) × Adds old front new

-- where playing breaks off, a front is added of the sections of some first events, which have no limit
abbrev pub BreaksOff : CoreState → List Event → Option (List ℕ) → Option (List ℕ) → Type 0
BreaksOff core happening old new =
    (front : List Event) × (rest : List Event) × (happening ≡ front ++ rest) × HasNoLimit core front × AddsFront old (sections core front) new

-- where these events come to their limit at this tick, the sections of those before it are added
abbrev pub StopsAt : CoreState → List Event → ℕ → Option (List ℕ) → Option (List ℕ) → Type 0
StopsAt core happening tick old new =
    (front : List Event) × IsLimit core happening front tick × Adds old (sections core front) new

-- What is added of the sections of these events: all of them, where they have no limit; those before the limit; or some front.
abbrev pub Plays : CoreState → List Event → Played → Option (List ℕ) → Option (List ℕ) → Type 0
Plays core happening plays.Ok old new = HasNoLimit core happening × Adds old (sections core happening) new
Plays core happening (plays.EventLimit tick) old new = StopsAt core happening tick old new
Plays core happening plays.WriteFault old new = BreaksOff core happening old new
Plays core happening plays.OutOfMemory old new = BreaksOff core happening old new

-- However far playing came, it made at most three block calls for each pair of an eventful tick and a block that is busy at it, and
-- 40 for each line: that is at most three for each of the 35 blocks at each eventful tick and for each line.
pub record Calls (core : CoreState) (happening : List Event) (lines old new : ℕ) : Type 0 where
  pub eventful : ℕ
  pub busy : ℕ
  pub part : IsCountedPart core happening eventful busy
  pub by_pairs : new ≤ old + (3 * busy + 40 * lines)
  pub by_ticks : new ≤ old + 105 * (eventful + lines)

-- The same of a script of which this is kept.

abbrev pub PlaysKept : Kept → Played → Option (List ℕ) → Option (List ℕ) → Type 0
PlaysKept script end old new = Plays (opening script.rows) (kept_events script) end old new

abbrev pub CallsKept : Kept → ℕ → ℕ → Type 0
CallsKept script old new = Calls (opening script.rows) (kept_events script) (length script.lines) old new
