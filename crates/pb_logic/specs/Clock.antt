-- CLOCK: for as long as it is enabled, a pulse in every period.
use Rattle.std.specs.Prelude.{ℕ, ◌+◌, ◌/◌, ◌≡◌, ◌<◌, ◌^◌, ◌⊎◌, max, ◌==◌, nat_lt, nat_le, Bool, false, if◌then◌else◌}
use Rattle.pb_names.specs.declared.clock.TheConstants as names
use Rattle.pb_buses.specs.declared.Inputs.{Inputs}
use Rattle.pb_buses.specs.declared.Outputs.{Outputs}
use Rattle.pb_buses.specs.declared.Emit.TheVariants as emits
use Rattle.pb_buses.specs.Rules.{Rules}
use Rattle.pb_logic.specs.Bits.{bit_input, one_bit}
use Rattle.pb_logic.specs.declared.clocks.ClockSettings.{ClockSettings}
use Rattle.pb_logic.specs.declared.clocks.ClockRegisters.{ClockRegisters}

-- a CLOCK: what commands set, and what ticks change
pub record ClockState : Type 0 where
  pub settings : ClockSettings
  pub registers : ClockRegisters

-- the inputs
abbrev pub enable : Inputs → Bool
enable inputs = bit_input names.ENABLE inputs

-- a period has two ticks at least
abbrev pub period_of : ClockSettings → ℕ
period_of settings = max 2 settings.period

-- for how many ticks of a period the output is high: for half of it where WIDTH is 0, rounded down
abbrev pub width_of : ClockSettings → ℕ
width_of settings = if settings.width == 0 then period_of settings / 2 else settings.width

-- not enabled: the output is low, and counting starts anew
abbrev pub stopped : ClockRegisters
stopped = record { count = 0; out = false }

-- enabled: the output is high where the count is below the width, and the count goes round the period
abbrev pub running : ClockSettings → ClockRegisters → ClockRegisters
running settings registers =
    record {
      count = if nat_le (period_of settings) (registers.count + 1) then 0 else registers.count + 1;
      out = nat_lt registers.count (width_of settings);
    }

-- the registers one tick later
abbrev pub registers_after : ClockState → Inputs → ClockRegisters
registers_after clock inputs = if enable inputs then running clock.settings clock.registers else stopped

-- one tick
abbrev pub next : ClockState → Inputs → ℕ → ClockState
next clock inputs tick = record { settings = clock.settings; registers = registers_after clock inputs }

-- without its running count, a CLOCK is its settings and its output
abbrev pub uncounted : Inputs → ClockState → ClockState
uncounted inputs clock =
    record { settings = clock.settings; registers = record { count = 0; out = clock.registers.out } }

-- A CLOCK emits nothing, and is calm where its output stays as it is: its count may go on.
abbrev pub rules : Rules ClockState
rules = record { next = next; emitted = λ clock inputs tick. emits.Nothing; uncounted = uncounted }

-- a CLOCK as the box opens
abbrev pub opening : ClockState
opening = record { settings = record { period = 0; width = 0 }; registers = stopped }

-- what it shows: OUT
abbrev pub shown : ClockState → Outputs
shown clock = one_bit clock.registers.out

-- PERIOD and WIDTH take up to 48 bits of ticks
abbrev pub IsSettable : ClockState → ℕ → ℕ → Type 0
IsSettable clock field raw = ((field ≡ names.PERIOD) ⊎ (field ≡ names.WIDTH)) × (raw < 2 ^ 48)

-- the settings with this raw value in a field
abbrev pub with_setting : ClockSettings → ℕ → ℕ → ClockSettings
with_setting settings field raw =
    if field == names.PERIOD then record { period = raw; width = settings.width }
    else (if field == names.WIDTH then record { period = settings.period; width = raw } else settings)

-- the CLOCK with this raw value in a field
abbrev pub with_field : ClockState → ℕ → ℕ → ClockState
with_field clock field raw =
    record { settings = with_setting clock.settings field raw; registers = clock.registers }
