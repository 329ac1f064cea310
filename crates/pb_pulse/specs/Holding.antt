-- Words of private helpers: no public clause cites them.
-- How long a queue stays as it is while no train is asked for.
use Rattle.std.specs.Prelude.{◌≡◌, ℕ, ◌+◌, ◌≤◌, ◌<◌, Bool, ◌⊎◌, List, Option, Some, None}
use Rattle.pb_pulse.specs.declared.trains.Train.{Train}
use Rattle.pb_pulse.specs.Train.{end_of, is_on}
use Rattle.pb_pulse.specs.Queue.{is_any_on, left}

-- From this tick up to another a train is on throughout, or off throughout. At the other it changes, or is at its
-- last tick.
pub record Holds (tick : ℕ) (train : Train) (last : ℕ) : Type 0 where
  pub later : tick < last
  pub within : last + 1 ≤ end_of train
  pub same : (t : ℕ) → tick ≤ t → t < last → is_on t train ≡ is_on tick train
  pub ends : (last + 1 ≡ end_of train) ⊎ ¬ (is_on last train ≡ is_on tick train)

-- at this tick no train leaves, and the output stays
pub record IsStill (out : Bool) (queue : List Train) (tick : ℕ) : Type 0 where
  pub stay : left tick queue ≡ queue
  pub level : is_any_on tick queue ≡ out

-- for so many ticks, and then no longer; or for ever
abbrev pub IsStillFor : ℕ → Bool → List Train → Option ℕ → Type 0
IsStillFor tick out queue None = (t : ℕ) → tick ≤ t → IsStill out queue t
IsStillFor tick out queue (Some n) =
    ((t : ℕ) → tick ≤ t → t < tick + n → IsStill out queue t) × ¬ (IsStill out queue (tick + n))
