-- Words of private helpers on deadlines: no public clause cites them.
use Rattle.std.specs.Prelude.{ℕ, ◌+◌, ◌%◌, ◌^◌, ◌≡◌, ℤ, pos, ◌+ℤ◌, ◌*ℤ◌, Bool, true, false, List, Option, Some, None, if◌then◌else◌, ⊤}
use Rattle.std.specs.Int.{w64, int_wrap, int_min, int_max}
use Rattle.pb_buses.specs.declared.Inputs.{Inputs}
use Rattle.pb_pcap.specs.declared.samples.PcapSamples.{PcapSamples}
use Rattle.pb_pcap.specs.declared.registers.PcapRegisters.{PcapRegisters}
use Rattle.pb_pcap.specs.declared.registers.PcapMode.{PcapMode}
use Rattle.pb_pcap.specs.declared.registers.PcapMode.TheVariants as modes
use Rattle.pb_pcap.specs.Each.{each}
use Rattle.pb_pcap.specs.Pcap.{enable, gate, trig}

-- Where a tick is calm.

-- one more sample of these positions leaves the least and the greatest values as they are
abbrev pub Holds : PcapSamples → List ℤ → Type 0
Holds samples positions =
    (each int_min samples.least positions ≡ samples.least) × (each int_max samples.greatest positions ≡ samples.greatest)

-- there is a sample before this one, and this one changes running counts alone
abbrev pub IsFurther : Option PcapSamples → List ℤ → Type 0
IsFurther None positions = ⊥
IsFurther (Some samples) positions = Holds samples positions

-- the tick is no sample, or a further one
abbrev pub AreKept : Bool → Option PcapSamples → List ℤ → Type 0
AreKept false samples positions = ⊤
AreKept true samples positions = IsFurther samples positions

-- by the mode: nothing goes on and ACTIVE is 0, or the run goes on
abbrev pub Rests : PcapMode → PcapRegisters → Inputs → Type 0
Rests modes.Idle registers inputs = registers.active ≡ false
Rests modes.Armed registers inputs = (enable inputs ≡ false) × (registers.active ≡ false)
Rests modes.Running registers inputs = (enable inputs ≡ true) × AreKept (gate inputs) registers.samples inputs.bus

-- the next tick is calm, and so are all after it
abbrev pub IsSteady : PcapRegisters → Inputs → Type 0
IsSteady registers inputs = (registers.trig_before ≡ trig inputs) × Rests registers.mode registers inputs

-- What calm ticks leave.

-- a position added to a sum so many times
abbrev pub added_times : ℤ → ℤ → ℤ → ℤ
added_times times sum position = int_wrap w64 (sum +ℤ times *ℤ position)

-- so many further samples of these positions, the first of them at this time stamp
abbrev pub with_more : PcapSamples → ℕ → ℕ → List ℤ → PcapSamples
with_more samples ts ticks positions =
    record samples {
      count = (samples.count + ticks) % 2 ^ 64;
      sums = each (added_times (pos ticks)) samples.sums positions;
      ts_end = (ts + ticks) % 2 ^ 64;
    }

abbrev pub with_any : Option PcapSamples → ℕ → ℕ → List ℤ → Option PcapSamples
with_any None ts ticks positions = None
with_any (Some samples) ts ticks positions = Some (with_more samples ts ticks positions)

abbrev pub samples_coasted : Bool → Option PcapSamples → ℕ → ℕ → List ℤ → Option PcapSamples
samples_coasted is_open samples ts ticks positions = if is_open then with_any samples ts ticks positions else samples

-- so many calm ticks of a run, one at least
abbrev pub run_on : PcapRegisters → Inputs → ℕ → PcapRegisters
run_on registers inputs ticks =
    record registers {
      ts = (registers.ts + ticks) % 2 ^ 64;
      samples = samples_coasted (gate inputs) registers.samples registers.ts ticks inputs.bus;
    }

-- so many calm ticks, one at least: out of a run nothing changes
abbrev pub coasted_in : PcapMode → PcapRegisters → Inputs → ℕ → PcapRegisters
coasted_in modes.Idle registers inputs ticks = registers
coasted_in modes.Armed registers inputs ticks = registers
coasted_in modes.Running registers inputs ticks = run_on registers inputs ticks

abbrev pub coasted : PcapRegisters → Inputs → ℕ → PcapRegisters
coasted registers inputs ticks = coasted_in registers.mode registers inputs ticks
