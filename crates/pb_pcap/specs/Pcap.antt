-- PCAP: position capture. It samples the positions while its gate is open, and hands out a record at each trigger.
use Rattle.std.specs.Prelude.{ℕ, ◌+◌, ◌-◌, ◌%◌, ◌^◌, ◌<◌, ◌≡◌, ◌==◌, ℤ, pos, Bool, true, false, not, ◌&&◌, ◌||◌, List, replicate, slice_index_or, Option, Some, None, if◌then◌else◌, refl}
use Rattle.std.specs.Option.{option_map}
use Rattle.std.specs.Int.{int_min, int_max}
use Rattle.pb_names.specs.declared.pcap.TheConstants as names
use Rattle.pb_buses.specs.declared.Inputs.{Inputs}
use Rattle.pb_buses.specs.declared.Outputs.{Outputs}
use Rattle.pb_buses.specs.declared.Record.{Record}
use Rattle.pb_buses.specs.declared.Emit.{Emit}
use Rattle.pb_buses.specs.declared.Emit.TheVariants as emits
use Rattle.pb_buses.specs.declared.Condition.TheVariants as conditions
use Rattle.pb_buses.specs.declared.Edge.TheVariants as edges
use Rattle.pb_buses.specs.Edges.{has_edge, edge_of}
use Rattle.pb_buses.specs.Rules.{Rules, CountsAreUnseen, is_record}
use Rattle.pb_pcap.specs.Each.{each, added}
use Rattle.pb_pcap.specs.declared.settings.PcapSettings.{PcapSettings}
use Rattle.pb_pcap.specs.declared.samples.PcapSamples.{PcapSamples}
use Rattle.pb_pcap.specs.declared.registers.PcapRegisters.{PcapRegisters}
use Rattle.pb_pcap.specs.declared.registers.PcapMode.{PcapMode}
use Rattle.pb_pcap.specs.declared.registers.PcapMode.TheVariants as modes

-- a PCAP: what commands set, and what ticks, arming and disarming change
pub record Capture : Type 0 where
  pub settings : PcapSettings
  pub registers : PcapRegisters

-- the inputs
abbrev pub enable : Inputs → Bool
enable inputs = slice_index_or inputs.bits names.ENABLE false

abbrev pub gate : Inputs → Bool
gate inputs = slice_index_or inputs.bits names.GATE false

abbrev pub trig : Inputs → Bool
trig inputs = slice_index_or inputs.bits names.TRIG false

-- TRIG has an edge by TRIG_EDGE
abbrev pub is_triggered : PcapSettings → PcapRegisters → Inputs → Bool
is_triggered settings registers inputs = has_edge settings.trig_edge registers.trig_before (trig inputs)

-- Arming. It leaves ACTIVE to the next tick.

abbrev pub is_idle_mode : PcapMode → Bool
is_idle_mode modes.Idle = true
is_idle_mode modes.Armed = false
is_idle_mode modes.Running = false

abbrev pub is_running_mode : PcapMode → Bool
is_running_mode modes.Idle = false
is_running_mode modes.Armed = false
is_running_mode modes.Running = true

abbrev pub is_idle : Capture → Bool
is_idle capture = is_idle_mode capture.registers.mode

-- armed, with room for so many records
abbrev pub armed : Capture → ℕ → Capture
armed capture room =
    record {
      settings = capture.settings;
      registers = record capture.registers { mode = modes.Armed; room = room };
    }

abbrev pub disarmed : Capture → Capture
disarmed capture =
    record { settings = capture.settings; registers = record capture.registers { mode = modes.Idle } }

-- Samples.

-- one more, in 64 bits
abbrev pub one_more : ℕ → ℕ
one_more n = (n + 1) % 2 ^ 64

-- no sums yet
abbrev pub no_sums : List ℤ
no_sums = replicate 32 (pos 0)

-- the first sample since samples began anew
abbrev pub first_sample : ℕ → List ℤ → PcapSamples
first_sample ts positions =
    record {
      count = 1;
      sums = each added no_sums positions;
      least = positions;
      greatest = positions;
      ts_start = ts;
      ts_end = one_more ts;
    }

-- each position is added to its sum, the least and the greatest are kept, and TS_END goes on
abbrev pub next_sample : PcapSamples → ℕ → List ℤ → PcapSamples
next_sample samples ts positions =
    record samples {
      count = one_more samples.count;
      sums = each added samples.sums positions;
      least = each int_min samples.least positions;
      greatest = each int_max samples.greatest positions;
      ts_end = one_more ts;
    }

abbrev pub with_sample : Option PcapSamples → ℕ → List ℤ → PcapSamples
with_sample None ts positions = first_sample ts positions
with_sample (Some samples) ts positions = next_sample samples ts positions

-- the tick is a sample where GATE is 1
abbrev pub samples_after : PcapRegisters → Inputs → Option PcapSamples
samples_after registers inputs =
    if gate inputs then Some (with_sample registers.samples registers.ts inputs.bus) else registers.samples

abbrev pub sampled : PcapRegisters → Inputs → PcapRegisters
sampled registers inputs = record registers { samples = samples_after registers inputs }

-- what a record holds: of each position its value now, and of the samples what is kept; without a sample the
-- least and the greatest are the value, and the first and the last time stamp are that of now
abbrev pub record_of : Option PcapSamples → ℕ → Inputs → Record
record_of None ts inputs =
    record {
      value = inputs.bus;
      least = inputs.bus;
      greatest = inputs.bus;
      sum = no_sums;
      ts_start = ts;
      ts_end = ts;
      ts_trig = ts;
      gate_duration = 0;
      words = inputs.words;
    }
record_of (Some samples) ts inputs =
    record {
      value = inputs.bus;
      least = samples.least;
      greatest = samples.greatest;
      sum = samples.sums;
      ts_start = samples.ts_start;
      ts_end = samples.ts_end;
      ts_trig = ts;
      gate_duration = samples.count;
      words = inputs.words;
    }

-- What a tick does, by the mode:

-- nothing is captured
abbrev pub inactive : PcapRegisters → PcapRegisters
inactive registers = record registers { active = false }

-- a run begins: time stamps count from here, samples begin anew, and this tick is none
abbrev pub begun : PcapRegisters → PcapRegisters
begun registers = record registers { mode = modes.Running; active = true; ts = 0; samples = None }

-- the run is over
abbrev pub ended : PcapRegisters → PcapRegisters
ended registers = record registers { mode = modes.Idle; active = false }

-- a record was handed out: there is room for one less, and samples begin anew
abbrev pub recorded : PcapRegisters → PcapRegisters
recorded registers = record registers { room = registers.room - 1; samples = None }

-- a record is due: without room for it the run is over
abbrev pub triggered : PcapRegisters → PcapRegisters
triggered registers = if registers.room == 0 then ended registers else recorded registers

-- first the sample, and then the trigger
abbrev pub run : PcapSettings → PcapRegisters → Inputs → PcapRegisters
run settings registers inputs =
    if is_triggered settings registers inputs then triggered (sampled registers inputs) else sampled registers inputs

-- time goes on
abbrev pub passed : PcapRegisters → ℕ → PcapRegisters
passed registers ts = record registers { ts = one_more ts }

-- the registers one tick later, but for the kept input
abbrev pub captured : PcapMode → PcapSettings → PcapRegisters → Inputs → PcapRegisters
captured modes.Idle settings registers inputs = inactive registers
captured modes.Armed settings registers inputs = if enable inputs then begun registers else inactive registers
captured modes.Running settings registers inputs =
    if enable inputs then passed (run settings registers inputs) registers.ts else ended registers

-- the registers one tick later: TRIG is kept whatever happens
abbrev pub registers_after : Capture → Inputs → PcapRegisters
registers_after capture inputs =
    record (captured capture.registers.mode capture.settings capture.registers inputs) { trig_before = trig inputs }

-- one tick
abbrev pub next : Capture → Inputs → ℕ → Capture
next capture inputs tick = record { settings = capture.settings; registers = registers_after capture inputs }

-- What a tick emits:

-- a record is due: without room for it the acquisition is over
abbrev pub emitted_at_trigger : Bool → Record → Emit
emitted_at_trigger is_full row = if is_full then emits.Completed conditions.Overrun else emits.Record row

-- a tick of a run: it is over without ENABLE, and a record is due at a trigger
abbrev pub emitted_of : Bool → Bool → Bool → Record → Emit
emitted_of enabled is_due is_full row =
    if enabled then (if is_due then emitted_at_trigger is_full row else emits.Nothing)
    else emits.Completed conditions.Ok

-- the record of this tick
abbrev pub recorded_at : PcapRegisters → Inputs → Record
recorded_at registers inputs = record_of (samples_after registers inputs) registers.ts inputs

abbrev pub emitted_in : PcapMode → PcapSettings → PcapRegisters → Inputs → Emit
emitted_in modes.Idle settings registers inputs = emits.Nothing
emitted_in modes.Armed settings registers inputs = emits.Nothing
emitted_in modes.Running settings registers inputs =
    emitted_of (enable inputs) (is_triggered settings registers inputs) (registers.room == 0)
    (recorded_at registers inputs)

abbrev pub emitted : Capture → Inputs → ℕ → Emit
emitted capture inputs tick =
    emitted_in capture.registers.mode capture.settings capture.registers inputs

-- a record is emitted where one is due in a run and there is room for it
abbrev pub emits_record : Capture → Inputs → Bool
emits_record capture inputs =
    is_running_mode capture.registers.mode && enable inputs
    && is_triggered capture.settings capture.registers inputs && not (capture.registers.room == 0)

-- nothing is emitted out of a run, and in one where ENABLE is 1 and TRIG has no edge
abbrev pub is_quiet_in : PcapMode → PcapSettings → PcapRegisters → Inputs → Bool
is_quiet_in mode settings registers inputs =
    not (is_running_mode mode) || (enable inputs && not (is_triggered settings registers inputs))

abbrev pub is_quiet : Capture → Inputs → Bool
is_quiet capture inputs = is_quiet_in capture.registers.mode capture.settings capture.registers inputs

-- Its running counts are the time stamp, the count of samples, their sums, and TS_END while GATE is 1.
abbrev pub uncounted_samples : Inputs → PcapSamples → PcapSamples
uncounted_samples inputs samples =
    record samples {
      count = 0;
      sums = no_sums;
      ts_end = if gate inputs then 0 else samples.ts_end;
    }

abbrev pub uncounted_registers : Inputs → PcapRegisters → PcapRegisters
uncounted_registers inputs registers =
    record registers { ts = 0; samples = option_map (uncounted_samples inputs) registers.samples }

abbrev pub uncounted : Inputs → Capture → Capture
uncounted inputs capture =
    record { settings = capture.settings; registers = uncounted_registers inputs capture.registers }

abbrev pub rules : Rules Capture
rules = record { next = next; emitted = emitted; uncounted = uncounted }

-- a PCAP as the box opens
abbrev pub opening : Capture
opening =
    record {
      settings = record { trig_edge = edges.Rising };
      registers =
          record {
            mode = modes.Idle;
            active = false;
            room = 0;
            ts = 0;
            samples = None;
            trig_before = false;
          };
    }

-- what it shows: ACTIVE
abbrev pub shown : Capture → Outputs
shown capture = record { bits = if capture.registers.active then 1 else 0; position = pos 0 }

-- Neither ACTIVE nor whether a tick emits a record depends on the running counts.

-- a tick of a run emits a record or doesn't, whatever the record holds
same_in_run :
    (enabled is_due is_full : Bool) (one other : Record) →
    is_record (emitted_of enabled is_due is_full one) ≡ is_record (emitted_of enabled is_due is_full other)
same_in_run false is_due is_full one other = refl
same_in_run true false is_full one other = refl
same_in_run true true false one other = refl
same_in_run true true true one other = refl

same_in :
    (mode : PcapMode) (seen : Inputs) (settings : PcapSettings) (registers : PcapRegisters) (inputs : Inputs) →
    is_record (emitted_in mode settings (uncounted_registers seen registers) inputs)
    ≡ is_record (emitted_in mode settings registers inputs)
same_in modes.Idle seen settings registers inputs = refl
same_in modes.Armed seen settings registers inputs = refl
same_in modes.Running seen settings registers inputs =
    same_in_run (enable inputs) (is_triggered settings registers inputs) (registers.room == 0)
    (recorded_at (uncounted_registers seen registers) inputs) (recorded_at registers inputs)

pub counts_unseen : CountsAreUnseen rules shown
counts_unseen =
    record {
      outputs = λ seen block. refl;
      records = λ seen inputs tick block.
          same_in block.registers.mode seen block.settings block.registers inputs;
    }

-- Settings.

-- TRIG_EDGE takes the number of a label
abbrev pub IsSettable : Capture → ℕ → ℕ → Type 0
IsSettable capture field raw = (field ≡ names.TRIG_EDGE) × (raw < 3)

-- the PCAP with this raw value in a field
abbrev pub with_field : Capture → ℕ → ℕ → Capture
with_field capture field raw =
    if field == names.TRIG_EDGE
    then record { settings = record { trig_edge = edge_of raw }; registers = capture.registers } else capture
