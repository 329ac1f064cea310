-- What a jump and a tick come to.
use Rattle.std.specs.Prelude.{◌≡◌, ℕ, ◌+◌, ◌*◌, ◌≤◌, false}
use Rattle.std.specs.List.{AllByRecursion}
use Rattle.pb_buses.specs.declared.Emit.{Emit}
use Rattle.pb_model.specs.Tick.{emitted_of}
use Rattle.pb_still.specs.Eventful.{Moment, next_moment, moment_after, Busy, Run}
use Rattle.pb_lazy.specs.Lazy.{IsQuiet}
use Rattle.pb_going.specs.Sims.{Going, Agrees}

-- it is plain that nothing happens at this tick but counting
pub record IsPlain (g : Going) : Type 0 where
  pub later : g.first ≡ false
  pub untouched : g.stood ≡ false
  pub quiet : AllByRecursion (IsQuiet g.buses.bus g.tick) g.lazies

-- after so many ticks, at none of which anything happened
pub record JumpsTo (moment : Moment) (new : Going) : Type 0 where
  pub ticks : ℕ
  pub at : new.tick ≡ moment.box.stands.tick + ticks
  pub agrees : Agrees new (moment_after ticks moment)
  pub run : Run ticks moment 0 0

-- after one tick, at which this was emitted, and at most three calls were made for each block that was busy
pub record StepsTo (moment : Moment) (new : Going) (emit : Emit) (was spent : ℕ) : Type 0 where
  pub agrees : Agrees new (next_moment moment)
  pub emits : emit ≡ emitted_of moment.box.stands
  pub busy : ℕ
  pub counted : Busy moment busy
  pub few : spent ≤ was + 3 * busy
