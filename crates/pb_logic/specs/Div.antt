-- DIV: of every so many pulses, the last goes to one output and the others to the other.
use Rattle.std.specs.Prelude.{ℕ, ◌+◌, ◌-◌, ◌≡◌, ◌<◌, ◌^◌, ◌⊎◌, ◌==◌, nat_le, Bool, true, false, if◌then◌else◌}
use Rattle.pb_names.specs.declared.div.TheConstants as names
use Rattle.pb_names.specs.declared.first_pulse.TheConstants as labels
use Rattle.pb_buses.specs.declared.Inputs.{Inputs}
use Rattle.pb_buses.specs.declared.Outputs.{Outputs}
use Rattle.pb_buses.specs.declared.Emit.TheVariants as emits
use Rattle.pb_buses.specs.Edges.{rises}
use Rattle.pb_buses.specs.Rules.{Rules}
use Rattle.pb_logic.specs.Bits.{bit_input, two_bits}
use Rattle.pb_logic.specs.declared.divs.FirstPulse.{FirstPulse}
use Rattle.pb_logic.specs.declared.divs.FirstPulse.TheVariants as firsts
use Rattle.pb_logic.specs.declared.divs.DivSettings.{DivSettings}
use Rattle.pb_logic.specs.declared.divs.DivRegisters.{DivRegisters}

-- a DIV: what commands set, and what ticks change
pub record DivState : Type 0 where
  pub settings : DivSettings
  pub registers : DivRegisters

-- the inputs
abbrev pub enable : Inputs → Bool
enable inputs = bit_input names.ENABLE inputs

abbrev pub inp : Inputs → Bool
inp inputs = bit_input names.INP inputs

-- the last count before a pulse goes to OUTD: a DIVISOR of 0 counts as 1
abbrev pub last_count : DivSettings → ℕ
last_count settings = settings.divisor - 1

-- the count where ENABLE rises, so that the first pulse goes to the chosen output
abbrev pub first_count : FirstPulse → DivSettings → ℕ
first_count firsts.OutN settings = 0
first_count firsts.OutD settings = last_count settings

-- the count that a pulse of this tick finds
abbrev pub count_at : DivSettings → DivRegisters → Inputs → ℕ
count_at settings registers inputs =
    if rises registers.enable_before (enable inputs) then first_count settings.first_pulse settings
    else registers.count

-- What a tick does to the count and the outputs:

-- nothing goes out, and this is the count
abbrev pub silent : DivRegisters → ℕ → DivRegisters
silent registers count = record registers { count = count; outd = false; outn = false }

-- the pulse goes to OUTD, and counting starts anew
abbrev pub divided : DivRegisters → DivRegisters
divided registers = record registers { count = 0; outd = true; outn = false }

-- the pulse goes to OUTN, and is counted
abbrev pub passed_on : DivRegisters → ℕ → DivRegisters
passed_on registers count = record registers { count = count + 1; outd = false; outn = true }

-- the outputs stay, and this is the count
abbrev pub held : DivRegisters → ℕ → DivRegisters
held registers count = record registers { count = count }

-- enabled, with this count
abbrev pub pulsed : DivSettings → DivRegisters → Inputs → ℕ → DivRegisters
pulsed settings registers inputs count =
    if rises registers.inp_before (inp inputs)
    then (if nat_le (last_count settings) count then divided registers else passed_on registers count)
    else (if inp inputs then held registers count else silent registers count)

-- the registers one tick later, but for the kept inputs
abbrev pub divided_after : DivSettings → DivRegisters → Inputs → DivRegisters
divided_after settings registers inputs =
    if enable inputs then pulsed settings registers inputs (count_at settings registers inputs)
    else silent registers registers.count

-- the registers one tick later: ENABLE and INP are kept whatever happens
abbrev pub registers_after : DivState → Inputs → DivRegisters
registers_after div inputs =
    record (divided_after div.settings div.registers inputs) {
      enable_before = enable inputs;
      inp_before = inp inputs;
    }

-- one tick
abbrev pub next : DivState → Inputs → ℕ → DivState
next div inputs tick = record { settings = div.settings; registers = registers_after div inputs }

-- A DIV emits nothing and has no running counts: it is calm where all its registers stay as they are.
abbrev pub rules : Rules DivState
rules = record { next = next; emitted = λ div inputs tick. emits.Nothing; uncounted = λ inputs div. div }

-- a DIV as the box opens
abbrev pub opening : DivState
opening =
    record {
      settings = record { divisor = 0; first_pulse = firsts.OutN };
      registers = record { count = 0; outd = false; outn = false; enable_before = false; inp_before = false };
    }

-- what it shows: OUTD, OUTN
abbrev pub shown : DivState → Outputs
shown div = two_bits div.registers.outd div.registers.outn

-- DIVISOR takes 32 bits, and FIRST_PULSE the number of a label
abbrev pub IsSettable : DivState → ℕ → ℕ → Type 0
IsSettable div field raw =
    ((field ≡ names.DIVISOR) × (raw < 2 ^ 32)) ⊎ ((field ≡ names.FIRST_PULSE) × (raw < 2))

-- the label of FIRST_PULSE with this number
abbrev pub first_pulse_of : ℕ → FirstPulse
first_pulse_of raw = if raw == labels.OUT_D then firsts.OutD else firsts.OutN

-- the settings with this raw value in a field
abbrev pub with_setting : DivSettings → ℕ → ℕ → DivSettings
with_setting settings field raw =
    if field == names.DIVISOR then record settings { divisor = raw }
    else (if field == names.FIRST_PULSE then record settings { first_pulse = first_pulse_of raw } else settings)

-- the DIV with this raw value in a field
abbrev pub with_field : DivState → ℕ → ℕ → DivState
with_field div field raw =
    record { settings = with_setting div.settings field raw; registers = div.registers }

-- COUNT is the only field that is read
abbrev pub IsRead : ℕ → Type 0
IsRead field = field ≡ names.COUNT

-- the value of a read field
abbrev pub value_read : DivState → ℕ → ℕ
value_read div field = div.registers.count
