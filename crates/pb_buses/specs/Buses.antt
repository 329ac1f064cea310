-- The buses: their entries, what an input selects of them, and when an entry changed last.
use Rattle.std.specs.Prelude.{◌≡◌, ℕ, suc, ℤ, pos, ◌+◌, ◌-◌, ◌*◌, ◌<◌, ◌==◌, ◌⊎◌, nat_lt, Bool, true, false, List, [], ◌∷◌, map, take, drop, length, replicate, slice_index_or, slice_set, if◌then◌else◌}
use Rattle.std.specs.List.{range_with_len}
use Rattle.std.specs.Ordering.{int_eq}
use mathlib.Core.Bool.{beq}
use Rattle.pb_names.specs.declared.bit_bus.TheConstants as bit_bus
use Rattle.pb_names.specs.declared.position_bus.TheConstants as position_bus
use Rattle.pb_buses.specs.declared.entries.Bus.{Bus}
use Rattle.pb_buses.specs.declared.entries.Buses.{Buses}

-- a bit entry, and 0 where there is none
abbrev pub bit : Bus → ℕ → Bool
bit bus i = slice_index_or bus.bits i false

-- a position entry, and 0 where there is none; so it is also what a position input with this raw value
-- selects, since no entry stands at ZERO
abbrev pub position : Bus → ℕ → ℤ
position bus i = slice_index_or bus.positions i (pos 0)

-- what a bit input with this raw value selects: ONE, or an entry; no entry stands at ZERO
abbrev pub selected : Bus → ℕ → Bool
selected bus select = if select == bit_bus.ONE then true else bit bus select

-- the number whose binary digits are these bits, the lowest first
unfoldable pub number : List Bool → ℕ
number [] = 0
number (b ∷ bits) = (if b then 1 else 0) + 2 * number bits

-- word w of the bit bus: its bit b is entry 32w + b
abbrev pub word : Bus → ℕ → ℕ
word bus w = number (take 32 (drop (32 * w) bus.bits))

-- the bit bus as four words
abbrev pub words : Bus → List ℕ
words bus = map (word bus) (range_with_len 0 4)

-- all entries 0
abbrev pub opening_bus : Bus
opening_bus = record { bits = replicate bit_bus.WIDTH false; positions = replicate position_bus.WIDTH (pos 0) }

-- Changes. The entries of both buses are counted as one, the positions from 128.

-- the value of an entry, a bit as 0 or 1
unfoldable pub value : Bus → ℕ → ℤ
value bus entry =
    if nat_lt entry position_bus.FIRST then (if bit bus entry then pos 1 else pos 0)
    else position bus (entry - position_bus.FIRST)

-- The tick at which an entry changed last: the last tick at which it differed from the tick before, and 0
-- where there is none. The states of the bus are listed from the latest back to that of tick 0.
abbrev pub last_change : ℕ → List Bus → ℕ
last_change entry [] = 0
last_change entry (bus ∷ []) = 0
last_change entry (bus ∷ before ∷ past) =
    if int_eq (value bus entry) (value before entry) then last_change entry (before ∷ past)
    else suc (length past)

-- buses at tick 0 with all entries 0
abbrev pub opening_buses : Buses
opening_buses = record { bus = opening_bus; changed = replicate 160 0 }

-- the tick kept for an entry
abbrev pub changed_at : Buses → ℕ → ℕ
changed_at buses entry = slice_index_or buses.changed entry 0

-- a bit entry takes a value at a tick; if that changes it, the tick is kept
abbrev pub with_bit : Buses → ℕ → Bool → ℕ → Buses
with_bit buses i value tick =
    if beq (bit buses.bus i) value then buses
    else record {
      bus = record { bits = slice_set buses.bus.bits i value; positions = buses.bus.positions };
      changed = slice_set buses.changed i tick;
    }

-- a position entry takes a value at a tick; if that changes it, the tick is kept
abbrev pub with_position : Buses → ℕ → ℤ → ℕ → Buses
with_position buses i value tick =
    if int_eq (position buses.bus i) value then buses
    else record {
      bus = record { bits = buses.bus.bits; positions = slice_set buses.bus.positions i value };
      changed = slice_set buses.changed (position_bus.FIRST + i) tick;
    }

-- The ticks that the buses keep are those of a bus that had these states at the ticks before, the latest
-- first.
pub record AgreesWithPast (buses : Buses) (past : List Bus) : Type 0 where
  pub bits : length buses.bus.bits ≡ 128
  pub positions : length buses.bus.positions ≡ 32
  pub entries : length buses.changed ≡ 160
  pub changes : (entry : ℕ) → entry < 160 → changed_at buses entry ≡ last_change entry (buses.bus ∷ past)

-- the entry didn't change at this tick so far: a change of it at this tick isn't the second one
abbrev pub IsUnchangedAt : Buses → ℕ → ℕ → Type 0
IsUnchangedAt buses entry tick = (changed_at buses entry < tick) ⊎ (tick ≡ 0)
