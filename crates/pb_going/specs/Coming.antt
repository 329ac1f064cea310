-- Words of private helpers: no public clause cites them.
-- How far an advance has come.
use Rattle.std.specs.Prelude.{◌≡◌, ℕ, ◌+◌, ◌*◌, ◌≤◌, List}
use Rattle.pb_buses.specs.declared.Emit.{Emit}
use Rattle.pb_still.specs.Eventful.{Moment, moment_after, Run}
use Rattle.pb_going.specs.Sims.{Going, Agrees}
use Rattle.pb_going.specs.Advanced.{handed_out}

-- It stands at the moment so many ticks after the start, of which so many were eventful, and these handed out this; and it made
-- at most three calls for each block that was busy at one of them.
pub record Comes (start : Moment) (g : Going) (eventful : ℕ) (out : List Emit) (was spent : ℕ) : Type 0 where
  pub ticks : ℕ
  pub busy : ℕ
  pub at : g.tick ≡ start.box.stands.tick + ticks
  pub agrees : Agrees g (moment_after ticks start)
  pub run : Run ticks start eventful busy
  pub handed : handed_out ticks start ≡ out
  pub few : spent ≤ was + 3 * busy
