-- SEQ: outputs by a table. Each row waits for its trigger, and then has two phases with outputs of their own.
use Rattle.std.specs.Prelude.{ℕ, ◌+◌, ◌-◌, ◌*◌, ◌/◌, ◌%◌, ◌^◌, ◌≡◌, ◌<◌, ◌⊎◌, ℤ, pos, int_le, max, ◌==◌, nat_lt, not, ◌||◌, Bool, true, false, List, [], length, slice_index_or, if◌then◌else◌, refl, Result, Ok, Err}
use Rattle.pb_words.specs.declared.Refusal.{Refusal}
use Rattle.pb_names.specs.declared.seq.TheConstants as names
use Rattle.pb_names.specs.declared.seq_state.TheConstants as state_labels
use Rattle.pb_buses.specs.declared.Inputs.{Inputs}
use Rattle.pb_buses.specs.declared.Outputs.{Outputs}
use Rattle.pb_buses.specs.declared.Emit.TheVariants as emits
use Rattle.pb_buses.specs.Edges.{rises}
use Rattle.pb_buses.specs.Rules.{Rules, CountsAreUnseen}
use Rattle.pb_tables.specs.declared.SeqRow.{SeqRow}
use Rattle.pb_tables.specs.Tables.{row_at, row_of}
use Rattle.pb_seq.specs.declared.settings.SeqSettings.{SeqSettings}
use Rattle.pb_seq.specs.declared.registers.SeqRegisters.{SeqRegisters}
use Rattle.pb_seq.specs.declared.registers.SeqState.{SeqState}
use Rattle.pb_seq.specs.declared.registers.SeqState.TheVariants as states
use Rattle.pb_seq.specs.declared.triggers.TheConstants as triggers

-- a SEQ: what commands set, what ticks change, and the words of its table
pub record Sequencer : Type 0 where
  pub settings : SeqSettings
  pub registers : SeqRegisters
  pub table : List ℕ

-- the inputs
abbrev pub enable : Inputs → Bool
enable inputs = slice_index_or inputs.bits names.ENABLE false

abbrev pub bita : Inputs → Bool
bita inputs = slice_index_or inputs.bits names.BITA false

abbrev pub bitb : Inputs → Bool
bitb inputs = slice_index_or inputs.bits names.BITB false

abbrev pub bitc : Inputs → Bool
bitc inputs = slice_index_or inputs.bits names.BITC false

abbrev pub posa : Inputs → ℤ
posa inputs = slice_index_or inputs.positions 0 (pos 0)

abbrev pub posb : Inputs → ℤ
posb inputs = slice_index_or inputs.positions 1 (pos 0)

abbrev pub posc : Inputs → ℤ
posc inputs = slice_index_or inputs.positions 2 (pos 0)

-- Rows.

-- how many rows a table has
abbrev pub rows_of : List ℕ → ℕ
rows_of table = length table / 4

-- the row of the present line, which is counted from 1; a row of zeros where there is none
abbrev pub present_row : List ℕ → SeqRegisters → SeqRow
present_row table registers =
    if nat_lt (4 * (registers.line - 1)) (length table) then row_at table (registers.line - 1) else row_of 0 0 0 0

-- whether the trigger of a row is met
abbrev pub is_met : SeqRow → Inputs → Bool
is_met row inputs =
    if row.trigger == triggers.ALWAYS then true
    else (if row.trigger == triggers.BITA_0 then not (bita inputs)
    else (if row.trigger == triggers.BITA_1 then bita inputs
    else (if row.trigger == triggers.BITB_0 then not (bitb inputs)
    else (if row.trigger == triggers.BITB_1 then bitb inputs
    else (if row.trigger == triggers.BITC_0 then not (bitc inputs)
    else (if row.trigger == triggers.BITC_1 then bitc inputs
    else (if row.trigger == triggers.POSA_AT_LEAST then int_le row.position (posa inputs)
    else (if row.trigger == triggers.POSA_AT_MOST then int_le (posa inputs) row.position
    else (if row.trigger == triggers.POSB_AT_LEAST then int_le row.position (posb inputs)
    else (if row.trigger == triggers.POSB_AT_MOST then int_le (posb inputs) row.position
    else (if row.trigger == triggers.POSC_AT_LEAST then int_le row.position (posc inputs)
    else (if row.trigger == triggers.POSC_AT_MOST then int_le (posc inputs) row.position
    else false))))))))))))

-- the unit of a row's times in ticks: PRESCALE, and 1 where it is 0
abbrev pub prescale_of : SeqSettings → ℕ
prescale_of settings = max settings.prescale 1

-- a time of a row in ticks
abbrev pub ticks_of : SeqSettings → ℕ → ℕ
ticks_of settings time = prescale_of settings * time

-- What a tick does is made of these:

-- outputs, ACTIVE, the line, the repeats and the ticks left become 0, and this is the state
abbrev pub clear : SeqRegisters → SeqState → SeqRegisters
clear registers state =
    record registers {
      state = state;
      line = 0;
      line_repeat = 0;
      table_repeat = 0;
      ticks_left = 0;
      out = 0;
      active = false;
    }

-- phase 1 of a row starts
abbrev pub phase_one : SeqSettings → SeqRow → SeqRegisters → SeqRegisters
phase_one settings row registers =
    record registers { state = states.Phase1; ticks_left = ticks_of settings row.time1; out = row.out1 }

-- phase 2 of a row starts; TIME2 0 counts as 1
abbrev pub phase_two : SeqSettings → SeqRow → SeqRegisters → SeqRegisters
phase_two settings row registers =
    record registers { state = states.Phase2; ticks_left = ticks_of settings (max row.time2 1); out = row.out2 }

-- it waits for the trigger of the present line, and the outputs stay
abbrev pub wait_trigger : SeqRegisters → SeqRegisters
wait_trigger registers = record registers { state = states.WaitTrigger; ticks_left = 0 }

-- a row begins whose trigger is met: without phase 1 where TIME1 is 0
abbrev pub first_phase : SeqSettings → SeqRow → SeqRegisters → SeqRegisters
first_phase settings row registers =
    if row.time1 == 0 then phase_two settings row registers else phase_one settings row registers

-- the trigger of the present line is tested
abbrev pub try : SeqSettings → List ℕ → SeqRegisters → Inputs → SeqRegisters
try settings table registers inputs =
    if is_met (present_row table registers) inputs then first_phase settings (present_row table registers) registers
    else wait_trigger registers

-- The eight cases:

-- 1. the table was written
abbrev pub rewritten : List ℕ → SeqRegisters → SeqRegisters
rewritten table registers = clear registers (if length table == 0 then states.Unready else states.WaitEnable)

-- 3. not enabled
abbrev pub disabled : SeqRegisters → SeqRegisters
disabled registers = clear registers states.WaitEnable

-- 4. it waits for ENABLE: where that rises, the table is begun
abbrev pub begun : SeqRegisters → SeqRegisters
begun registers = record registers { active = true; line = 1; line_repeat = 1; table_repeat = 1 }

abbrev pub wait_enable : SeqSettings → List ℕ → SeqRegisters → Inputs → SeqRegisters
wait_enable settings table registers inputs =
    if rises registers.enable_before (enable inputs) then try settings table (begun registers) inputs else registers

-- 6. the phase goes on
abbrev pub one_tick_fewer : SeqRegisters → SeqRegisters
one_tick_fewer registers = record registers { ticks_left = registers.ticks_left - 1 }

-- 8. a repeat of a row is over: the row is repeated, or the next line follows, or the table is repeated, or all
-- is over. 0 repeats are without end, and repeats are counted modulo 2^32.
abbrev pub goes_on : ℕ → ℕ → Bool
goes_on repeats repeat = repeats == 0 || nat_lt repeat repeats

abbrev pub next_line_repeat : SeqRegisters → SeqRegisters
next_line_repeat registers = record registers { line_repeat = (registers.line_repeat + 1) % 2 ^ 32 }

abbrev pub next_line : SeqRegisters → SeqRegisters
next_line registers = record registers { line = registers.line + 1; line_repeat = 1 }

abbrev pub next_table_repeat : SeqRegisters → SeqRegisters
next_table_repeat registers =
    record registers { line = 1; line_repeat = 1; table_repeat = (registers.table_repeat + 1) % 2 ^ 32 }

abbrev pub end_of_table : SeqSettings → List ℕ → SeqRegisters → Inputs → SeqRegisters
end_of_table settings table registers inputs =
    if goes_on settings.repeats registers.table_repeat
    then try settings table (next_table_repeat registers) inputs
    else clear registers states.WaitEnable

abbrev pub end_of_line : SeqSettings → List ℕ → SeqRegisters → Inputs → SeqRegisters
end_of_line settings table registers inputs =
    if nat_lt registers.line (rows_of table)
    then try settings table (next_line registers) inputs
    else end_of_table settings table registers inputs

abbrev pub end_of_repeat : SeqSettings → List ℕ → SeqRegisters → Inputs → SeqRegisters
end_of_repeat settings table registers inputs =
    if goes_on (present_row table registers).repeats registers.line_repeat
    then try settings table (next_line_repeat registers) inputs
    else end_of_line settings table registers inputs

-- whether it is at this state
abbrev pub is_unready : SeqState → Bool
is_unready states.Unready = true
is_unready _ = false

abbrev pub is_waiting_for_enable : SeqState → Bool
is_waiting_for_enable states.WaitEnable = true
is_waiting_for_enable _ = false

abbrev pub is_waiting_for_trigger : SeqState → Bool
is_waiting_for_trigger states.WaitTrigger = true
is_waiting_for_trigger _ = false

abbrev pub is_in_phase_one : SeqState → Bool
is_in_phase_one states.Phase1 = true
is_in_phase_one _ = false

-- The first case that fits. Where it is unready nothing changes; where the trigger is waited for it is tested
-- again; and where phase 1 is over phase 2 starts.
abbrev pub turned : SeqSettings → List ℕ → SeqRegisters → Inputs → SeqRegisters
turned settings table registers inputs =
    if registers.written then rewritten table registers
    else (if is_unready registers.state then registers
    else (if not (enable inputs) then disabled registers
    else (if is_waiting_for_enable registers.state then wait_enable settings table registers inputs
    else (if is_waiting_for_trigger registers.state then try settings table registers inputs
    else (if nat_lt 1 registers.ticks_left then one_tick_fewer registers
    else (if is_in_phase_one registers.state then phase_two settings (present_row table registers) registers
    else end_of_repeat settings table registers inputs))))))

-- the registers one tick later: ENABLE is kept and the mark is gone, whatever happens
abbrev pub registers_after : SeqSettings → List ℕ → SeqRegisters → Inputs → SeqRegisters
registers_after settings table registers inputs =
    record (turned settings table registers inputs) { enable_before = enable inputs; written = false }

-- one tick
abbrev pub next : Sequencer → Inputs → ℕ → Sequencer
next sequencer inputs tick =
    record sequencer {
      registers = registers_after sequencer.settings sequencer.table sequencer.registers inputs;
    }

-- without its running count, a SEQ is all but the ticks left
abbrev pub uncounted : Inputs → Sequencer → Sequencer
uncounted inputs sequencer = record sequencer { registers = record sequencer.registers { ticks_left = 0 } }

-- A SEQ emits nothing, and is calm where all but the ticks left stays as it is.
abbrev pub rules : Rules Sequencer
rules = record { next = next; emitted = λ sequencer inputs tick. emits.Nothing; uncounted = uncounted }

-- a SEQ as the box opens
abbrev pub opening : Sequencer
opening =
    record {
      settings = record { prescale = 0; repeats = 1 };
      registers =
          record {
            state = states.Unready;
            line = 0;
            line_repeat = 0;
            table_repeat = 0;
            ticks_left = 0;
            out = 0;
            active = false;
            enable_before = false;
            written = false;
          };
      table = [];
    }

-- what it shows: OUTA to OUTF, ACTIVE
abbrev pub shown : Sequencer → Outputs
shown sequencer =
    record {
      bits = sequencer.registers.out + 64 * (if sequencer.registers.active then 1 else 0);
      position = pos 0;
    }

-- neither of it depends on the ticks left
abbrev pub counts_unseen : CountsAreUnseen rules shown
counts_unseen = record { outputs = λ seen sequencer. refl; records = λ seen inputs tick sequencer. refl }

-- Settings, reading and the table.

-- PRESCALE and REPEATS take 32 bits
abbrev pub IsSettable : Sequencer → ℕ → ℕ → Type 0
IsSettable sequencer field raw = ((field ≡ names.PRESCALE) ⊎ (field ≡ names.REPEATS)) × (raw < 2 ^ 32)

-- the settings with this raw value in a field
abbrev pub with_setting : SeqSettings → ℕ → ℕ → SeqSettings
with_setting settings field raw =
    if field == names.PRESCALE then record settings { prescale = raw }
    else (if field == names.REPEATS then record settings { repeats = raw } else settings)

-- the SEQ with this raw value in a field
abbrev pub with_field : Sequencer → ℕ → ℕ → Sequencer
with_field sequencer field raw = record sequencer { settings = with_setting sequencer.settings field raw }

-- the SEQ after a table write that leaves these words
abbrev pub with_table : Sequencer → List ℕ → Sequencer
with_table sequencer words =
    record sequencer { registers = record sequencer.registers { written = true }; table = words }

-- the SEQ after a table write, which leaves these words or is refused
abbrev pub with_written : Result (List ℕ) Refusal → Sequencer → Sequencer
with_written (Ok words) sequencer = with_table sequencer words
with_written (Err refusal) sequencer = sequencer

-- STATE, TABLE_LINE, LINE_REPEAT and TABLE_REPEAT are read
abbrev pub IsRead : ℕ → Type 0
IsRead field =
    (field ≡ names.STATE) ⊎ (field ≡ names.TABLE_LINE) ⊎ (field ≡ names.LINE_REPEAT) ⊎ (field ≡ names.TABLE_REPEAT)

-- the number of a state's label
abbrev pub state_label : SeqState → ℕ
state_label states.Unready = state_labels.UNREADY
state_label states.WaitEnable = state_labels.WAIT_ENABLE
state_label states.WaitTrigger = state_labels.WAIT_TRIGGER
state_label states.Phase1 = state_labels.PHASE1
state_label states.Phase2 = state_labels.PHASE2

-- the value of a read field
abbrev pub value_read : Sequencer → ℕ → ℕ
value_read sequencer field =
    if field == names.STATE then state_label sequencer.registers.state
    else (if field == names.TABLE_LINE then sequencer.registers.line
    else (if field == names.LINE_REPEAT then sequencer.registers.line_repeat
    else sequencer.registers.table_repeat))
