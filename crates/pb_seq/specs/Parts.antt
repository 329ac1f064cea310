-- Words of private helpers: no public clause cites them.
use Rattle.std.specs.Prelude.{◌≡◌, ℕ, ◌-◌, ◌<◌, ◌==◌, nat_lt, Bool, true, false, List, if◌then◌else◌}
use Rattle.pb_buses.specs.declared.Inputs.{Inputs}
use Rattle.pb_seq.specs.declared.settings.SeqSettings.{SeqSettings}
use Rattle.pb_seq.specs.declared.registers.SeqRegisters.{SeqRegisters}
use Rattle.pb_seq.specs.Seq.{one_tick_fewer, is_in_phase_one, phase_two, present_row, end_of_repeat, registers_after}
use Rattle.pb_seq.specs.declared.registers.SeqState.{SeqState}
use Rattle.pb_seq.specs.declared.registers.SeqState.TheVariants as states

-- what the code keeps: the outputs are six bits
abbrev pub CanShow : SeqRegisters → Type 0
CanShow registers = registers.out < 64

-- the last three cases: enabled, in a phase
abbrev pub in_phase : SeqSettings → List ℕ → SeqRegisters → Inputs → SeqRegisters
in_phase settings table registers inputs =
    if nat_lt 1 registers.ticks_left then one_tick_fewer registers
    else (if is_in_phase_one registers.state then phase_two settings (present_row table registers) registers
    else end_of_repeat settings table registers inputs)

-- Deadlines.

-- whether this is a phase
abbrev pub is_in_phase : SeqState → Bool
is_in_phase states.Phase1 = true
is_in_phase states.Phase2 = true
is_in_phase _ = false

-- with so many ticks left
abbrev pub with_ticks : SeqRegisters → ℕ → SeqRegisters
with_ticks registers ticks = record registers { ticks_left = ticks }

-- the next tick leaves all but the ticks left as it is
abbrev pub AreStill : SeqSettings → List ℕ → SeqRegisters → Inputs → Type 0
AreStill settings table registers inputs =
    with_ticks (registers_after settings table registers inputs) 0 ≡ with_ticks registers 0

-- so many calm ticks later: a phase has so many ticks fewer, and what rests does so from the first tick on
abbrev pub coasted : SeqSettings → List ℕ → SeqRegisters → Inputs → ℕ → SeqRegisters
coasted settings table registers inputs ticks =
    if ticks == 0 then registers
    else (if is_in_phase registers.state then with_ticks registers (registers.ticks_left - ticks)
    else registers_after settings table registers inputs)
