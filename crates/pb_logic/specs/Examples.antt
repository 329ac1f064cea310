-- The blocks and inputs of the worked examples.
use Rattle.std.specs.Prelude.{ℕ, ℤ, pos, Bool, true, false, List, [], ◌∷◌, replicate}
use Rattle.pb_names.specs.declared.srgate.TheConstants as names
use Rattle.pb_buses.specs.declared.Inputs.{Inputs}
use Rattle.pb_buses.specs.declared.Outputs.{Outputs}
use Rattle.pb_buses.specs.Rules.{Rules, after}
use Rattle.pb_logic.specs.Bits.{digit}
use Rattle.pb_logic.specs.Clock as clock_rules
use Rattle.pb_logic.specs.Counter as counter_rules
use Rattle.pb_logic.specs.Div as div_rules
use Rattle.pb_logic.specs.Srgate as gate_rules
use Rattle.pb_logic.specs.declared.divs.FirstPulse.TheVariants as firsts

-- what a block sees whose first three bit inputs are these
abbrev pub seen : Bool → Bool → Bool → Inputs
seen first second third =
    record {
      bits = first ∷ second ∷ third ∷ false ∷ false ∷ [];
      positions = replicate 3 (pos 0);
      words = replicate 4 0;
      bus = replicate 32 (pos 0);
    }

-- the block after these inputs, one a tick
abbrev pub after_all : {B : Type 0} → Rules B → List Inputs → B → B
after_all rules [] block = block
after_all rules (inputs ∷ others) block = after_all rules others (rules.next block inputs 0)

-- ENABLE is 1, and so is the second input, or the third, or both: TRIG and DIR, INP, or SET and RST
abbrev pub idle : Inputs
idle = seen true false false

abbrev pub pulse : Inputs
pulse = seen true true false

abbrev pub pulse_down : Inputs
pulse_down = seen true true true

abbrev pub set : Inputs
set = seen true true false

abbrev pub both : Inputs
both = seen true true true

-- the second input is 1 while ENABLE is 0
abbrev pub disabled_set : Inputs
disabled_set = seen false true false

-- a counter from 0 to 2 that starts at 1 and counts by 2
abbrev pub counter : counter_rules.CounterState
counter =
    record {
      settings = record { start = pos 1; step = 2; min = pos 0; max = pos 2 };
      registers = counter_rules.opening.registers;
    }

abbrev pub counter_shows : List Inputs → Outputs
counter_shows inputs = counter_rules.shown (after_all counter_rules.rules inputs counter)

-- this carry and this position
abbrev pub position : Bool → ℤ → Outputs
position carry out = record { bits = digit carry; position = out }

-- a divider by 2
abbrev pub div : div_rules.DivState
div = record { settings = record { divisor = 2; first_pulse = firsts.OutN }; registers = div_rules.opening.registers }

-- its outputs and its count
abbrev pub div_shows : List Inputs → Outputs × ℕ
div_shows inputs =
    let later = after_all div_rules.rules inputs div in
    (div_rules.shown later, later.registers.count)

-- a gate as the box opens, and after a command to force it
abbrev pub gate : gate_rules.SrgateState
gate = gate_rules.opening

abbrev pub force_set : gate_rules.SrgateState → gate_rules.SrgateState
force_set gate_ = gate_rules.with_field gate_ names.FORCE_SET 0

abbrev pub force_rst : gate_rules.SrgateState → gate_rules.SrgateState
force_rst gate_ = gate_rules.with_field gate_ names.FORCE_RST 0

abbrev pub gate_shows : gate_rules.SrgateState → List Inputs → Bool
gate_shows start inputs = (after_all gate_rules.rules inputs start).registers.out

-- a clock with this period and width
abbrev pub clock : ℕ → ℕ → clock_rules.ClockState
clock period width =
    record { settings = record { period = period; width = width }; registers = clock_rules.opening.registers }

-- the same after so many ticks with ENABLE at 1
abbrev pub clock_after : ℕ → ℕ → ℕ → clock_rules.ClockState
clock_after period width ticks = after clock_rules.rules idle 0 ticks (clock period width)

-- whether it is high then
abbrev pub clock_shows : ℕ → ℕ → ℕ → Bool
clock_shows period width ticks = (clock_after period width ticks).registers.out
