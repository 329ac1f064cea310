-- The rows of the stimulus, and the value of a target at a tick.
use Rattle.std.specs.Prelude.{◌≡◌, ℕ, ℤ, pos, ◌<◌, ◌≤◌, ◌^◌, ◌⊎◌, ◌==◌, ◌&&◌, nat_lt, nat_le, Bool, List, [], ◌∷◌, Option, Some, None, if◌then◌else◌}
use Rattle.std.specs.List.{AllByRecursion}
use Rattle.pb_stim.specs.declared.stimuli.Row.{Row}

-- what a row may hold: a TTL input is 0 or 1
pub record IsRow (row : Row) : Type 0 where
  pub tick : row.tick < 2 ^ 62
  pub target : row.target < 10
  pub level : row.target < 6 → (row.value ≡ pos 0) ⊎ (row.value ≡ pos 1)

-- the ticks don't fall from row to row, nor below this one
abbrev pub NeverFall : ℕ → List Row → Type 0
NeverFall tick [] = Unit {0}
NeverFall tick (row ∷ rows) = (tick ≤ row.tick) × NeverFall row.tick rows

-- the rows of a stimulus: each is one, and their ticks never fall
pub record AreRows (rows : List Row) : Type 0 where
  pub each : AllByRecursion IsRow rows
  pub order : NeverFall 0 rows

-- the tick of the last row, or this one where there is none
abbrev pub last_tick : ℕ → List Row → ℕ
last_tick tick [] = tick
last_tick tick (row ∷ rows) = last_tick row.tick rows

-- the row counts for this target at this tick
abbrev pub counts : ℕ → ℕ → Row → Bool
counts target tick row = (row.target == target) && nat_le row.tick tick

-- the value of the last row that counts, or this value where none does
abbrev pub value_after : ℤ → List Row → ℕ → ℕ → ℤ
value_after value [] target tick = value
value_after value (row ∷ rows) target tick =
    value_after (if counts target tick row then row.value else value) rows target tick

-- the value of a target at a tick: that of its last row whose tick isn't above, and 0 where there is none
abbrev pub value_at : List Row → ℕ → ℕ → ℤ
value_at rows target tick = value_after (pos 0) rows target tick

-- The next tick after this one at which a row comes: since the ticks never fall, that of the first row
-- which comes later.
abbrev pub next_tick : List Row → ℕ → Option ℕ
next_tick [] tick = None
next_tick (row ∷ rows) tick = if nat_lt tick row.tick then Some row.tick else next_tick rows tick
