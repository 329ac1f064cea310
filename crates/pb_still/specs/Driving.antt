-- The box with its stimulus.
use Rattle.std.specs.Prelude.{ℕ, ℤ, pos, Bool, not, List, ◌++◌, map, drop}
use Rattle.std.specs.List.{range_with_len}
use Rattle.std.specs.Ordering.{int_eq}
use Rattle.pb_names.specs.declared.ttlin.TheConstants as ttlin
use Rattle.pb_names.specs.declared.inenc.TheConstants as inenc
use Rattle.pb_buses.specs.declared.Bus.{Bus}
use Rattle.pb_stim.specs.declared.Row.{Row}
use Rattle.pb_stim.specs.Stimulus.{value_at}
use Rattle.pb_model.specs.Tick.{Box, with_bus}
use Rattle.pb_model.specs.Tick as model

-- the value of a target of the stimulus as a level: high where it isn't 0
abbrev pub is_high : ℤ → Bool
is_high value = not (int_eq value (pos 0))

-- the levels of TTLIN1 to TTLIN6 at a tick
abbrev pub levels_at : List Row → ℕ → List Bool
levels_at rows tick = map (λ i. is_high (value_at rows i tick)) (range_with_len 0 ttlin.INSTANCES)

-- the positions of INENC1 to INENC4 at a tick
abbrev pub encoders_at : List Row → ℕ → List ℤ
encoders_at rows tick = map (λ target. value_at rows target tick) (range_with_len ttlin.INSTANCES inenc.INSTANCES)

-- the bus where the entries of TTLIN and INENC have the values of a tick
abbrev pub driven : List Row → ℕ → Bus → Bus
driven rows tick bus =
    record {
      bits = levels_at rows tick ++ drop ttlin.INSTANCES bus.bits;
      positions = encoders_at rows tick ++ drop inenc.INSTANCES bus.positions;
    }

-- the box where they have the values of its own tick
abbrev pub stimulated : List Row → Box → Box
stimulated rows box = with_bus box (driven rows box.stands.tick box.stands.bus)

-- One tick: the blocks see the bus of this tick, and at the next the stimulus puts its values on it.
abbrev pub tick : List Row → Box → Box
tick rows box = stimulated rows (model.tick box)
