-- What `make` and `bench` write, by the status with which they end. Neither of them has an input.
use Rattle.std.specs.Prelude.{◌≡◌, ℕ, ◌⊎◌, List, Option, codes}
use Rattle.pb_ports.specs.Ports.{Adds}
use Rattle.pb_stim.specs.Making.{made}
use Rattle.pb_core.specs.declared.Event.{Event}
use Rattle.pb_replay.specs.Script.{Line, IsScript}
use Rattle.pb_replay.specs.Events.{first_core, events_of_script}
use Rattle.pb_replay.specs.Counting.{IsLimit, HasNoLimit}
use Rattle.pb_replay.specs.Output.{output}
use Rattle.pb_replay.specs.Plays.{AddsFront}
use Rattle.pb_bench.specs.Asks.{Asks}
use Rattle.pb_bench.specs.Tally.{tally}
use Rattle.panda_sim.specs.declared.statuses.Status.{Status}
use Rattle.panda_sim.specs.declared.statuses.Status.TheVariants as statuses
use Rattle.panda_sim.specs.Run.{IsReplay}

-- the words are this one, a number of points and a seed
abbrev pub IsAsked : List ℕ → List (List ℕ) → Type 0
IsAsked word words = (n : ℕ) × (seed : ℕ) × Asks word words n seed

-- the words are known: `replay`, or `make` or `bench` with their two numbers
abbrev pub IsKnown : List (List ℕ) → Type 0
IsKnown words = IsReplay words ⊎ (IsAsked (codes "make") words ⊎ IsAsked (codes "bench") words)

-- A run writes this text, and ends in no other way than these.
abbrev pub WritesText : List ℕ → Status → Option (List ℕ) → Option (List ℕ) → Type 0
-- all of it was written
WritesText text statuses.Ok held now = Adds held text now
-- the output failed: a front of it was written
WritesText text statuses.WriteFault held now = AddsFront held text now
-- memory ran out before anything was written
WritesText text statuses.OutOfMemory held now = now ≡ held
WritesText text other held now = ⊥

-- The script of n points and this seed has lines of which this holds.
abbrev pub OfMade : ℕ → ℕ → (List Line → Type 0) → Type 0
OfMade n seed Holds = (lines : List Line) × IsScript (made n seed) lines × Holds lines

-- the events of these lines have no limit
abbrev pub AreShort : List Line → Type 0
AreShort lines = HasNoLimit (first_core lines) (events_of_script lines)

-- they have this limit
abbrev pub EndAt : ℕ → List Line → Type 0
EndAt tick lines = (front : List Event) × IsLimit (first_core lines) (events_of_script lines) front tick

-- What is written of the lines that tell of the output of the script of n points and this seed.
abbrev pub WritesTally : ℕ → ℕ → Status → Option (List ℕ) → Option (List ℕ) → Type 0
-- all of them
WritesTally n seed statuses.Ok held now = OfMade n seed (λ lines. AreShort lines × Adds held (tally n (output lines)) now)
-- the output failed: a front of them
WritesTally n seed statuses.WriteFault held now = OfMade n seed (λ lines. AreShort lines × AddsFront held (tally n (output lines)) now)
-- memory ran out before anything was written
WritesTally n seed statuses.OutOfMemory held now = now ≡ held
-- the script has this limit, and nothing was written
WritesTally n seed (statuses.EventLimit tick) held now = OfMade n seed (EndAt tick) × (now ≡ held)
WritesTally n seed other held now = ⊥
