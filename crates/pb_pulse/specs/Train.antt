-- Trains of pulses.
use Rattle.std.specs.Prelude.{ℕ, ◌+◌, ◌-◌, ◌*◌, ◌<◌, ◌≤◌, nat_lt, nat_le, Bool, ◌&&◌}
use Rattle.std.specs.List.{list_any, range_with_len}
use Rattle.pb_pulse.specs.declared.trains.Train.{Train}

-- where pulse i of a train rises; the first is pulse 0
abbrev pub rise_of : Train → ℕ → ℕ
rise_of train i = train.start + i * train.step

-- the tick behind the last pulse
abbrev pub end_of : Train → ℕ
end_of train = train.start + (train.number - 1) * train.step + train.width

-- pulse i is on at a tick
abbrev pub is_pulse_on : ℕ → Train → ℕ → Bool
is_pulse_on tick train i = nat_le (rise_of train i) tick && nat_lt tick (rise_of train i + train.width)

-- one of the pulses is on at a tick
unfoldable pub is_on : ℕ → Train → Bool
is_on tick train = list_any (is_pulse_on tick train) (range_with_len 0 train.number)

-- the same as a relation: some i below the number of pulses
abbrev pub IsOn : ℕ → Train → Type 0
IsOn tick train =
    (i : ℕ) × ((i < train.number) × (rise_of train i ≤ tick) × (tick < rise_of train i + train.width))

-- a train has pulses, and none begins before the one before it has ended
pub record HasPulses (train : Train) : Type 0 where
  pub pulse : 0 < train.width
  pub one : 0 < train.number
  pub apart : 1 < train.number → train.width ≤ train.step
