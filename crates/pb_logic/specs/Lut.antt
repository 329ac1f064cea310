-- LUT: a logic function of five inputs, given as 32 bits. The output follows the inputs one tick later.
use Rattle.std.specs.Prelude.{ℕ, ◌≡◌, ◌<◌, ◌^◌, ◌==◌, Bool, false, if◌then◌else◌}
use Rattle.pb_lut.specs.Expressions.{Inputs as Levels}
use Rattle.pb_lut.specs.Functions.{table_output}
use Rattle.pb_names.specs.declared.lut.TheConstants as names
use Rattle.pb_buses.specs.declared.Inputs.{Inputs}
use Rattle.pb_buses.specs.declared.Outputs.{Outputs}
use Rattle.pb_buses.specs.declared.Emit.TheVariants as emits
use Rattle.pb_buses.specs.Rules.{Rules}
use Rattle.pb_logic.specs.Bits.{bit_input, one_bit}
use Rattle.pb_logic.specs.declared.luts.LutSettings.{LutSettings}
use Rattle.pb_logic.specs.declared.luts.LutRegisters.{LutRegisters}

-- a LUT: what commands set, and what ticks change
pub record LutState : Type 0 where
  pub settings : LutSettings
  pub registers : LutRegisters

-- the five inputs, as a logic expression names them: INPA is A, and so on
abbrev pub levels : Inputs → Levels
levels inputs =
    record {
      a = bit_input names.INPA inputs;
      b = bit_input names.INPB inputs;
      c = bit_input names.INPC inputs;
      d = bit_input names.INPD inputs;
      e = bit_input names.INPE inputs;
    }

-- the output one tick later: bit 16A + 8B + 4C + 2D + E of the function
abbrev pub output_after : LutSettings → Inputs → Bool
output_after settings inputs = table_output settings.function (levels inputs)

-- one tick
abbrev pub next : LutState → Inputs → ℕ → LutState
next lut inputs tick = record { settings = lut.settings; registers = record { out = output_after lut.settings inputs } }

-- A LUT emits nothing, and has no running counts: it is calm where its output stays as it is.
abbrev pub rules : Rules LutState
rules = record { next = next; emitted = λ lut inputs tick. emits.Nothing; uncounted = λ inputs lut. lut }

-- a LUT as the box opens: its function is 0
abbrev pub opening : LutState
opening = record { settings = record { function = 0 }; registers = record { out = false } }

-- what it shows: OUT
abbrev pub shown : LutState → Outputs
shown lut = one_bit lut.registers.out

-- FUNC takes 32 bits
abbrev pub IsSettable : LutState → ℕ → ℕ → Type 0
IsSettable lut field raw = (field ≡ names.FUNC) × (raw < 2 ^ 32)

-- the LUT with this raw value in a field
abbrev pub with_field : LutState → ℕ → ℕ → LutState
with_field lut field raw =
    if field == names.FUNC then record { settings = record { function = raw }; registers = lut.registers } else lut
