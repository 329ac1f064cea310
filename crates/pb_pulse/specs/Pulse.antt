-- PULSE: trains of pulses, each some ticks behind an edge of a trigger.
use Rattle.std.specs.Prelude.{ℕ, ◌+◌, ◌≡◌, ◌<◌, ◌^◌, ◌⊎◌, ◌==◌, min, max, pos, Bool, false, ◌&&◌, List, [], length, slice_index_or, if◌then◌else◌}
use Rattle.pb_names.specs.declared.pulse.TheConstants as names
use Rattle.pb_buses.specs.declared.Inputs.{Inputs}
use Rattle.pb_buses.specs.declared.Outputs.{Outputs}
use Rattle.pb_buses.specs.declared.Emit.TheVariants as emits
use Rattle.pb_buses.specs.declared.Edge.TheVariants as edges
use Rattle.pb_buses.specs.Edges.{rises, has_edge, edge_of}
use Rattle.pb_buses.specs.Rules.{Rules}
use Rattle.pb_pulse.specs.declared.settings.PulseSettings.{PulseSettings}
use Rattle.pb_pulse.specs.declared.registers.PulseRegisters.{PulseRegisters}
use Rattle.pb_pulse.specs.declared.trains.Train.{Train}
use Rattle.pb_pulse.specs.Queue.{is_dropped, asked, is_any_on, left}

-- a PULSE: what commands set, the queued trains, and what else ticks change
pub record Generator : Type 0 where
  pub settings : PulseSettings
  pub queue : List Train
  pub registers : PulseRegisters

-- the inputs
abbrev pub enable : Inputs → Bool
enable inputs = slice_index_or inputs.bits 0 false

abbrev pub trig : Inputs → Bool
trig inputs = slice_index_or inputs.bits 1 false

-- What a tick does where ENABLE is 1:

-- 1. Where ENABLE rises, dropped trains are counted anew.
abbrev pub counted_before : PulseRegisters → Inputs → ℕ
counted_before registers inputs =
    if rises registers.enable_before (enable inputs) then 0 else registers.dropped

-- 2. Where TRIG has an edge, a train is asked for, which begins DELAY behind this tick. It is put at the end of
-- the queue, or dropped and counted.
abbrev pub asks : Generator → Inputs → Bool
asks generator inputs =
    has_edge generator.settings.trig_edge generator.registers.trig_before (trig inputs)

abbrev pub train_at : PulseSettings → ℕ → Train
train_at settings tick =
    record {
      start = tick + settings.delay;
      width = settings.width;
      step = settings.step;
      number = max settings.pulses 1;
    }

abbrev pub queue_before : Generator → Inputs → ℕ → List Train
queue_before generator inputs tick =
    if asks generator inputs then asked (train_at generator.settings tick) generator.queue
    else generator.queue

abbrev pub dropped_after : Generator → Inputs → ℕ → ℕ
dropped_after generator inputs tick =
    let counted = counted_before generator.registers inputs in
    if asks generator inputs && is_dropped (train_at generator.settings tick) generator.queue
    then min (counted + 1) 0xffff_ffff else counted

abbrev pub with_queue : Generator → List Train → Generator
with_queue generator queue = record generator { queue = queue }

-- 3. OUT is 1 where a pulse of a queued train is on.
abbrev pub out_after : Generator → Inputs → ℕ → Bool
out_after generator inputs tick = is_any_on tick (queue_before generator inputs tick)

-- 4. Trains that have ended by the next tick leave the queue.
abbrev pub queue_after : Generator → Inputs → ℕ → List Train
queue_after generator inputs tick = left tick (queue_before generator inputs tick)

abbrev pub running : Generator → Inputs → ℕ → Generator
running generator inputs tick =
    record {
      settings = generator.settings;
      queue = queue_after generator inputs tick;
      registers =
          record generator.registers {
            dropped = dropped_after generator inputs tick;
            out = out_after generator inputs tick;
          };
    }

-- Where ENABLE is 0, the queue becomes empty and OUT is 0.
abbrev pub stopped : Generator → Generator
stopped generator =
    record {
      settings = generator.settings;
      queue = [];
      registers = record generator.registers { out = false };
    }

-- ENABLE and TRIG are kept whatever happens
abbrev pub kept : Inputs → Generator → Generator
kept inputs generator =
    record generator {
      registers =
          record generator.registers { enable_before = enable inputs; trig_before = trig inputs };
    }

-- one tick
abbrev pub next : Generator → Inputs → ℕ → Generator
next generator inputs tick =
    kept inputs (if enable inputs then running generator inputs tick else stopped generator)

-- A PULSE emits nothing and has no running counts: it is calm where its queue and its registers stay as they are.
abbrev pub rules : Rules Generator
rules =
    record { next = next; emitted = λ generator inputs tick. emits.Nothing; uncounted = λ inputs generator. generator }

-- a PULSE as the box opens
abbrev pub opening : Generator
opening =
    record {
      settings = record { delay = 0; width = 0; pulses = 0; step = 0; trig_edge = edges.Rising };
      queue = [];
      registers = record { dropped = 0; out = false; enable_before = false; trig_before = false };
    }

-- what it shows: OUT
abbrev pub shown : Generator → Outputs
shown generator = record { bits = if generator.registers.out then 1 else 0; position = pos 0 }

-- Settings and reading.

-- times take up to 48 bits of ticks, PULSES a number up to 65535, and TRIG_EDGE the number of a label
abbrev pub IsSettable : Generator → ℕ → ℕ → Type 0
IsSettable generator field raw =
    (((field ≡ names.DELAY) ⊎ (field ≡ names.WIDTH) ⊎ (field ≡ names.STEP)) × (raw < 2 ^ 48))
    ⊎ ((field ≡ names.PULSES) × (raw < 2 ^ 16))
    ⊎ ((field ≡ names.TRIG_EDGE) × (raw < 3))

-- the settings with this raw value in a field
abbrev pub with_setting : PulseSettings → ℕ → ℕ → PulseSettings
with_setting settings field raw =
    if field == names.DELAY then record settings { delay = raw }
    else (if field == names.WIDTH then record settings { width = raw }
    else (if field == names.PULSES then record settings { pulses = raw }
    else (if field == names.STEP then record settings { step = raw }
    else (if field == names.TRIG_EDGE then record settings { trig_edge = edge_of raw } else settings))))

-- the PULSE with this raw value in a field
abbrev pub with_field : Generator → ℕ → ℕ → Generator
with_field generator field raw =
    record generator { settings = with_setting generator.settings field raw }

-- QUEUED and DROPPED are read
abbrev pub IsRead : ℕ → Type 0
IsRead field = (field ≡ names.QUEUED) ⊎ (field ≡ names.DROPPED)

-- the value of a read field: how many trains are queued, and how many were dropped since ENABLE rose
abbrev pub value_read : Generator → ℕ → ℕ
value_read generator field =
    if field == names.QUEUED then length generator.queue else generator.registers.dropped
