-- COUNTER: counts pulses up or down in a range of positions, and marks where it went over an end.
use Rattle.std.specs.Prelude.{ℕ, ◌≡◌, ◌<◌, ◌^◌, ◌⊎◌, ℤ, pos, negsuc, ◌+ℤ◌, ◌-ℤ◌, int_lt, int_le, FitsSigned, ◌==◌, Bool, true, false, not, ◌&&◌, ◌||◌, if◌then◌else◌}
use Rattle.std.specs.Ordering.{int_eq}
use Rattle.std.specs.Int.{w32, w64, cast_signed, int_rem_euclid}
use Rattle.pb_names.specs.declared.counter.TheConstants as names
use Rattle.pb_buses.specs.declared.Inputs.{Inputs}
use Rattle.pb_buses.specs.declared.Outputs.{Outputs}
use Rattle.pb_buses.specs.declared.Emit.TheVariants as emits
use Rattle.pb_buses.specs.Edges.{rises}
use Rattle.pb_buses.specs.Rules.{Rules}
use Rattle.pb_logic.specs.Bits.{bit_input, digit}
use Rattle.pb_logic.specs.declared.counters.CounterSettings.{CounterSettings}
use Rattle.pb_logic.specs.declared.counters.CounterRegisters.{CounterRegisters}

-- a COUNTER: what commands set, and what ticks change
pub record CounterState : Type 0 where
  pub settings : CounterSettings
  pub registers : CounterRegisters

-- the inputs
abbrev pub enable : Inputs → Bool
enable inputs = bit_input names.ENABLE inputs

abbrev pub trig : Inputs → Bool
trig inputs = bit_input names.TRIG inputs

abbrev pub dir : Inputs → Bool
dir inputs = bit_input names.DIR inputs

-- the range is that of all positions where MIN and MAX are both 0, or MIN is above MAX
abbrev pub is_unlimited : CounterSettings → Bool
is_unlimited settings =
    (int_eq settings.min (pos 0) && int_eq settings.max (pos 0)) || int_lt settings.max settings.min

-- the least position of the range
abbrev pub lowest : CounterSettings → ℤ
lowest settings = if is_unlimited settings then negsuc 0x7fff_ffff else settings.min

-- the greatest position of the range
abbrev pub highest : CounterSettings → ℤ
highest settings = if is_unlimited settings then pos 0x7fff_ffff else settings.max

-- the number is in the range
abbrev pub is_within : CounterSettings → ℤ → Bool
is_within settings number = int_le (lowest settings) number && int_le number (highest settings)

-- the number that one more pulse leads to, which may lie out of the range: down with DIR 1
abbrev pub stepped : CounterSettings → ℤ → Bool → ℤ
stepped settings out down = if down then out -ℤ pos settings.step else out +ℤ pos settings.step

-- a number out of the range comes in again at the other end
abbrev pub come_round : CounterSettings → ℤ → ℤ
come_round settings number =
    lowest settings
    +ℤ int_rem_euclid (number -ℤ lowest settings) ((highest settings -ℤ lowest settings) +ℤ pos 1)

-- What a tick does to the position and the carry:

-- the position stays, and there is no carry
abbrev pub without_carry : CounterRegisters → CounterRegisters
without_carry registers = record registers { carry = false }

-- the position is START, and there is no carry
abbrev pub started : CounterSettings → CounterRegisters → CounterRegisters
started settings registers = record registers { out = settings.start; carry = false }

-- a pulse led to this number: out of the range there is a carry
abbrev pub reached : CounterSettings → CounterRegisters → ℤ → CounterRegisters
reached settings registers number =
    if is_within settings number then record registers { out = number; carry = false }
    else record registers { out = come_round settings number; carry = true }

-- enabled for longer than this tick
abbrev pub counted : CounterSettings → CounterRegisters → Inputs → CounterRegisters
counted settings registers inputs =
    if rises registers.trig_before (trig inputs)
    then reached settings registers (stepped settings registers.out (dir inputs))
    else (if trig inputs then registers else without_carry registers)

-- the registers one tick later, but for the kept inputs: where ENABLE rises, TRIG isn't looked at
abbrev pub counted_after : CounterSettings → CounterRegisters → Inputs → CounterRegisters
counted_after settings registers inputs =
    if not (enable inputs) then without_carry registers
    else (if rises registers.enable_before (enable inputs) then started settings registers
    else counted settings registers inputs)

-- the registers one tick later: ENABLE and TRIG are kept whatever happens
abbrev pub registers_after : CounterState → Inputs → CounterRegisters
registers_after counter inputs =
    record (counted_after counter.settings counter.registers inputs) {
      enable_before = enable inputs;
      trig_before = trig inputs;
    }

-- one tick
abbrev pub next : CounterState → Inputs → ℕ → CounterState
next counter inputs tick =
    record { settings = counter.settings; registers = registers_after counter inputs }

-- A COUNTER emits nothing and has no running counts: it is calm where all its registers stay as they are.
abbrev pub rules : Rules CounterState
rules =
    record { next = next; emitted = λ counter inputs tick. emits.Nothing; uncounted = λ inputs counter. counter }

-- a COUNTER as the box opens
abbrev pub opening : CounterState
opening =
    record {
      settings = record { start = pos 0; step = 1; min = pos 0; max = pos 0 };
      registers = record { out = pos 0; carry = false; enable_before = false; trig_before = false };
    }

-- what it shows: CARRY, and OUT
abbrev pub shown : CounterState → Outputs
shown counter =
    record { bits = digit counter.registers.carry; position = counter.registers.out }

-- START, MIN and MAX take a signed number of 32 bits, extended to 64, and STEP takes 32 bits
abbrev pub IsSettable : CounterState → ℕ → ℕ → Type 0
IsSettable counter field raw =
    (((field ≡ names.START) ⊎ (field ≡ names.MIN) ⊎ (field ≡ names.MAX))
    × (raw < 2 ^ 64) × FitsSigned w32 (cast_signed w64 raw))
    ⊎ ((field ≡ names.STEP) × (raw < 2 ^ 32))

-- the settings with this raw value in a field
abbrev pub with_setting : CounterSettings → ℕ → ℕ → CounterSettings
with_setting settings field raw =
    if field == names.START then record settings { start = cast_signed w64 raw }
    else (if field == names.STEP then record settings { step = raw }
    else (if field == names.MIN then record settings { min = cast_signed w64 raw }
    else (if field == names.MAX then record settings { max = cast_signed w64 raw } else settings)))

-- the COUNTER with this raw value in a field
abbrev pub with_field : CounterState → ℕ → ℕ → CounterState
with_field counter field raw =
    record { settings = with_setting counter.settings field raw; registers = counter.registers }
