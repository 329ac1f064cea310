-- Words of private helpers: no public clause cites them.
-- What is counted while a script is played: its eventful ticks, and its block calls.
use Rattle.std.specs.Prelude.{◌≡◌, ℕ, ◌+◌, ◌-◌, ◌*◌, ◌<◌, ◌≤◌, ◌⊎◌, Bool, true, if◌then◌else◌, List, ◌∷◌}
use Rattle.pb_still.specs.Eventful.{IsEventful, Run}
use Rattle.pb_going.specs.Sims.{outdated}
use Rattle.pb_core.specs.declared.Event.{Event}
use Rattle.pb_core.specs.Kept.{KeptCore, Agrees}
use Rattle.pb_core.specs.Answer.{CoreState, moment_of, advanced}
use Rattle.pb_replay.specs.declared.played.Played.{Played}
use Rattle.pb_replay.specs.declared.played.Played.TheVariants as plays
use Rattle.pb_replay.specs.Events.{going_to}
use Rattle.pb_replay.specs.Counting.{Counted, limit, IsCountedPart}

-- The eventful ticks so far, and the block calls so far with those that outdated deadlines will take.
pub record Tally : Type 0 where
  pub eventful : ℕ
  pub calls : ℕ

abbrev pub tally : KeptCore → ℕ → ℕ → Tally
tally core eventful steps = record { eventful = eventful; calls = steps + outdated core.sim }

-- What so many more eventful ticks with so many busy blocks add, and further calls up to these.
pub record AddsTicks (eventful busy room : ℕ) (old new : Tally) : Type 0 where
  pub ticks : new.eventful ≡ old.eventful + eventful
  pub few : new.eventful < limit
  pub calls : new.calls ≤ old.calls + (3 * busy + room)

-- no tick was made, and at most so many calls
pub record AddsCalls (room : ℕ) (old new : Tally) : Type 0 where
  pub ticks : new.eventful ≡ old.eventful
  pub calls : new.calls ≤ old.calls + room

-- playing can go on: the tick at which the box stands is eventful, and no limit was reached
pub record IsReady (core : CoreState) (eventful : ℕ) : Type 0 where
  pub now : IsEventful (moment_of core)
  pub few : eventful < limit

-- These events happened.
pub record WentAll (room : ℕ) (core : CoreState) (happening : List Event) (old new : Tally) : Type 0 where
  pub eventful : ℕ
  pub busy : ℕ
  pub counted : Counted core happening eventful busy
  pub adds : AddsTicks eventful busy room old new

-- they did up to some tick
pub record WentSome (room : ℕ) (core : CoreState) (happening : List Event) (old new : Tally) : Type 0 where
  pub eventful : ℕ
  pub busy : ℕ
  pub part : IsCountedPart core happening eventful busy
  pub adds : AddsTicks eventful busy room old new

-- the first of them is an advance that made all ticks before this one, which is at the limit
pub record WentTo (tick room : ℕ) (core : CoreState) (happening : List Event) (old new : Tally) : Type 0 where
  pub to : ℕ
  pub rest : List Event
  pub split : happening ≡ going_to to ∷ rest
  pub from_now : core.box.stands.tick ≤ tick
  pub below : tick < to
  pub eventful : ℕ
  pub busy : ℕ
  pub run : Run (tick - core.box.stands.tick) (moment_of core) eventful busy
  pub next : IsEventful (moment_of (advanced core tick))
  pub adds : AddsTicks eventful busy room old new
  pub last : new.eventful + 1 ≡ limit

-- What is counted while these events happen, by how playing them ends. Where an advance lacks memory, or comes to the limit, nothing
-- was written.
abbrev pub Went : ℕ → Type 0 → Played → CoreState → List Event → Tally → Tally → Type 0
Went room Silent plays.Ok core happening old new = WentAll room core happening old new
Went room Silent plays.WriteFault core happening old new = WentAll room core happening old new
Went room Silent plays.OutOfMemory core happening old new =
    WentAll room core happening old new ⊎ (WentSome room core happening old new × Silent)
Went room Silent (plays.EventLimit tick) core happening old new = WentTo tick room core happening old new × Silent

-- One call of the core over one eventful tick, towards a target: this is where it came, and whether it can go on.
pub record Turns (goes : Bool) (core : CoreState) (to : ℕ) (kept : KeptCore) (old new : ℕ) : Type 0 where
  pub tick : ℕ
  pub from_now : core.box.stands.tick ≤ tick
  pub within : tick ≤ to
  pub agrees : Agrees kept (advanced core tick)
  pub eventful : ℕ
  pub busy : ℕ
  pub run : Run (tick - core.box.stands.tick) (moment_of core) eventful busy
  pub calls : new ≤ old + 3 * busy
  pub counts : IsEventful (moment_of core) → eventful ≡ (if goes then 1 else 0)
  pub next : goes ≡ true → (to ≤ tick) ⊎ IsEventful (moment_of (advanced core tick))

-- So far on the way to a target.
pub record IsOnWay (core : CoreState) (to : ℕ) (kept : KeptCore) (old new : Tally) : Type 0 where
  pub tick : ℕ
  pub from_now : core.box.stands.tick ≤ tick
  pub within : tick - core.box.stands.tick ≤ to - core.box.stands.tick
  pub agrees : Agrees kept (advanced core tick)
  pub eventful : ℕ
  pub busy : ℕ
  pub run : Run (tick - core.box.stands.tick) (moment_of core) eventful busy
  pub calls : new.calls ≤ old.calls + 3 * busy
  pub counts : IsEventful (moment_of core) → new.eventful ≡ old.eventful + eventful
  pub next : IsEventful (moment_of core) → (to ≤ tick) ⊎ IsEventful (moment_of (advanced core tick))

-- What was spent however far it came: three calls for each busy block, and 21 for each line.
pub record Spends (core : CoreState) (happening : List Event) (lines old new : ℕ) : Type 0 where
  pub eventful : ℕ
  pub busy : ℕ
  pub part : IsCountedPart core happening eventful busy
  pub calls : new ≤ old + (3 * busy + 21 * lines)
