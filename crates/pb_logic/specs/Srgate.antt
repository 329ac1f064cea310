-- SRGATE: an output that is set and reset by edges of two inputs, or forced by a command.
use Rattle.std.specs.Prelude.{ℕ, ◌≡◌, ◌<◌, ◌⊎◌, ◌==◌, Bool, true, false, Option, Some, None, if◌then◌else◌}
use Rattle.pb_names.specs.declared.srgate.TheConstants as names
use Rattle.pb_names.specs.declared.when_disabled.TheConstants as labels
use Rattle.pb_buses.specs.declared.Edge.TheVariants as edges
use Rattle.pb_buses.specs.declared.Inputs.{Inputs}
use Rattle.pb_buses.specs.declared.Outputs.{Outputs}
use Rattle.pb_buses.specs.declared.Emit.TheVariants as emits
use Rattle.pb_buses.specs.Edges.{edge_of, has_edge}
use Rattle.pb_buses.specs.Rules.{Rules}
use Rattle.pb_logic.specs.Bits.{bit_input, one_bit}
use Rattle.pb_logic.specs.declared.srgates.Force.{Force}
use Rattle.pb_logic.specs.declared.srgates.Force.TheVariants as forces
use Rattle.pb_logic.specs.declared.srgates.WhenDisabled.{WhenDisabled}
use Rattle.pb_logic.specs.declared.srgates.WhenDisabled.TheVariants as disabled
use Rattle.pb_logic.specs.declared.srgates.SrgateSettings.{SrgateSettings}
use Rattle.pb_logic.specs.declared.srgates.SrgateRegisters.{SrgateRegisters}

-- an SRGATE: what commands set, and what ticks change. A pending force is a register.
pub record SrgateState : Type 0 where
  pub settings : SrgateSettings
  pub registers : SrgateRegisters

-- the inputs
abbrev pub enable : Inputs → Bool
enable inputs = bit_input names.ENABLE inputs

abbrev pub set_input : Inputs → Bool
set_input inputs = bit_input names.SET inputs

abbrev pub rst_input : Inputs → Bool
rst_input inputs = bit_input names.RST inputs

-- forced: what the force says
abbrev pub forced : Force → Bool
forced forces.Set = true
forced forces.Reset = false

-- not enabled: by WHEN_DISABLED, from the output so far
abbrev pub disabled_output : WhenDisabled → Bool → Bool
disabled_output disabled.Low out = false
disabled_output disabled.High out = true
disabled_output disabled.Keep out = out

-- enabled: an edge of RST comes before an edge of SET
abbrev pub gated : SrgateSettings → SrgateRegisters → Inputs → Bool
gated settings registers inputs =
    if has_edge settings.rst_edge registers.rst_before (rst_input inputs) then false
    else (if has_edge settings.set_edge registers.set_before (set_input inputs) then true else registers.out)

-- the output one tick later, where no force is pending
abbrev pub unforced : SrgateSettings → SrgateRegisters → Inputs → Bool
unforced settings registers inputs =
    if enable inputs then gated settings registers inputs
    else disabled_output settings.when_disabled registers.out

-- the output one tick later: a pending force comes before all else
abbrev pub output_after : Option Force → SrgateSettings → SrgateRegisters → Inputs → Bool
output_after (Some force) settings registers inputs = forced force
output_after None settings registers inputs = unforced settings registers inputs

-- the registers one tick later: SET and RST are kept whatever happens, and no force is pending any more
abbrev pub registers_after : SrgateState → Inputs → SrgateRegisters
registers_after gate inputs =
    record {
      out = output_after gate.registers.pending gate.settings gate.registers inputs;
      set_before = set_input inputs;
      rst_before = rst_input inputs;
      pending = None;
    }

-- one tick
abbrev pub next : SrgateState → Inputs → ℕ → SrgateState
next gate inputs tick = record { settings = gate.settings; registers = registers_after gate inputs }

-- An SRGATE emits nothing and has no running counts: it is calm where all its registers stay as they are.
abbrev pub rules : Rules SrgateState
rules = record { next = next; emitted = λ gate inputs tick. emits.Nothing; uncounted = λ inputs gate. gate }

-- an SRGATE as the box opens
abbrev pub opening : SrgateState
opening =
    record {
      settings = record { when_disabled = disabled.Low; set_edge = edges.Rising; rst_edge = edges.Rising };
      registers = record { out = false; set_before = false; rst_before = false; pending = None };
    }

-- what it shows: OUT
abbrev pub shown : SrgateState → Outputs
shown gate = one_bit gate.registers.out

-- the three settings take the number of a label, and the two actions take 0
abbrev pub IsSettable : SrgateState → ℕ → ℕ → Type 0
IsSettable gate field raw =
    (((field ≡ names.WHEN_DISABLED) ⊎ (field ≡ names.SET_EDGE) ⊎ (field ≡ names.RST_EDGE)) × (raw < 3))
    ⊎ (((field ≡ names.FORCE_SET) ⊎ (field ≡ names.FORCE_RST)) × (raw ≡ 0))

-- the label of WHEN_DISABLED with this number
abbrev pub when_disabled_of : ℕ → WhenDisabled
when_disabled_of raw =
    if raw == labels.HIGH then disabled.High else (if raw == labels.KEEP then disabled.Keep else disabled.Low)

-- the settings with this raw value in a field
abbrev pub with_setting : SrgateSettings → ℕ → ℕ → SrgateSettings
with_setting settings field raw =
    if field == names.WHEN_DISABLED then record settings { when_disabled = when_disabled_of raw }
    else (if field == names.SET_EDGE then record settings { set_edge = edge_of raw }
    else (if field == names.RST_EDGE then record settings { rst_edge = edge_of raw } else settings))

-- the registers after an action: the force asked for last is the pending one
abbrev pub with_force : SrgateRegisters → ℕ → SrgateRegisters
with_force registers field =
    if field == names.FORCE_SET then record registers { pending = Some forces.Set }
    else (if field == names.FORCE_RST then record registers { pending = Some forces.Reset } else registers)

-- the SRGATE with this raw value in a field
abbrev pub with_field : SrgateState → ℕ → ℕ → SrgateState
with_field gate field raw =
    record { settings = with_setting gate.settings field raw; registers = with_force gate.registers field }
