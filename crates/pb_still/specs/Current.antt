-- Words of private helpers: no public clause cites them.
-- What the core keeps beside the rows: how far it has come in them, and the values of the targets.
use Rattle.std.specs.Prelude.{◌≡◌, ℕ, ℤ, ◌<◌, ◌≤◌, ◌^◌, List, map, take, drop, length, slice_set, nat_lt, Bool, if◌then◌else◌}
use Rattle.std.specs.List.{AllByRecursion, range_with_len}
use Rattle.pb_stim.specs.declared.Row.{Row}
use Rattle.pb_stim.specs.Stimulus.{value_at}
use Rattle.pb_buses.specs.declared.Buses.{Buses}
use Rattle.pb_model.specs.Kept.{Kept, with_bits, with_positions, with_buses}
use Rattle.pb_still.specs.Driving.{is_high}

-- the values of the ten targets at a tick
abbrev pub values_at : List Row → ℕ → List ℤ
values_at rows tick = map (λ target. value_at rows target tick) (range_with_len 0 10)

-- the values after one more row that counts
abbrev pub with_row : List ℤ → ℕ → ℤ → List ℤ
with_row values target value = if nat_lt target 10 then slice_set values target value else values

-- each row before this place counts at the tick, no later one does, and the values are those of the tick
pub record IsCurrent (rows : List Row) (place : ℕ) (values : List ℤ) (tick : ℕ) : Type 0 where
  pub within : place ≤ length rows
  pub past : AllByRecursion (λ (row : Row). row.tick ≤ tick) (take place rows)
  pub coming : AllByRecursion (λ (row : Row). tick < row.tick) (drop place rows)
  pub levels : values ≡ values_at rows tick
  pub small : tick < 2 ^ 62

-- the values of the TTL inputs as levels
abbrev pub levels_of : List ℤ → List Bool
levels_of values = map is_high (take 6 values)

-- the buses once the values of the targets are put on them at a tick
abbrev pub buses_with : List ℤ → ℕ → Buses → Buses
buses_with values tick buses = with_positions 0 (drop 6 values) tick (with_bits 0 (levels_of values) tick buses)

-- the box with the values on its buses
abbrev pub with_values : List ℤ → Kept → Kept
with_values values kept = with_buses kept (buses_with values kept.tick kept.buses)
