-- What an event may cost: block calls, and deadlines that become outdated.
use Rattle.std.specs.Prelude.{◌≡◌, ℕ, ◌+◌, ◌-◌, ◌*◌, ◌≤◌}
use Rattle.pb_still.specs.Eventful.{Run}
use Rattle.pb_going.specs.Sims.{outdated}
use Rattle.pb_core.specs.declared.events.Event.{Event}
use Rattle.pb_core.specs.declared.events.Event.TheVariants as events
use Rattle.pb_core.specs.Core.{CoreState, moment_of}
use Rattle.pb_core.specs.Kept.{KeptCore}

-- An advance makes at most three calls for each pair of a tick that it steps and a block that is busy at it, and one for each
-- deadline that was outdated.
pub record AdvanceCosts (core : CoreState) (old new : KeptCore) (was spent : ℕ) : Type 0 where
  pub eventful : ℕ
  pub busy : ℕ
  pub run : Run (new.sim.tick - old.sim.tick) (moment_of core) eventful busy
  pub calls : spent ≤ was + (3 * busy + outdated old.sim)
  pub known : outdated new.sim ≡ 0

-- A line makes at most twenty, and outdates at most one deadline.
pub record LineCosts (old new : KeptCore) (was spent : ℕ) : Type 0 where
  pub calls : spent ≤ was + 20
  pub outdates : outdated new.sim ≤ outdated old.sim + 1

-- Another event makes none and outdates none.
pub record CostsNothing (old new : KeptCore) (was spent : ℕ) : Type 0 where
  pub calls : spent ≡ was
  pub outdates : outdated new.sim ≡ outdated old.sim

-- an event other than an advance
abbrev pub CostsLittle : Event → KeptCore → KeptCore → ℕ → ℕ → Type 0
CostsLittle (events.Line id text) old new was spent = LineCosts old new was spent
CostsLittle event old new was spent = CostsNothing old new was spent

abbrev pub Costs : Event → CoreState → KeptCore → KeptCore → ℕ → ℕ → Type 0
Costs (events.Advance to most) core old new was spent = AdvanceCosts core old new was spent
Costs event core old new was spent = CostsLittle event old new was spent
