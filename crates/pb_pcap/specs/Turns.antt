-- Words of private helpers: no public clause cites them.
use Rattle.std.specs.Prelude.{◌≡◌, ◌≢◌, ℤ, List, Some}
use Rattle.pb_buses.specs.declared.Inputs.{Inputs}
use Rattle.pb_buses.specs.declared.Emit.TheVariants as emits
use Rattle.pb_pcap.specs.declared.settings.PcapSettings.{PcapSettings}
use Rattle.pb_pcap.specs.declared.registers.PcapRegisters.{PcapRegisters}
use Rattle.pb_pcap.specs.declared.registers.PcapMode.{PcapMode}
use Rattle.pb_pcap.specs.declared.registers.Turn.{Turn}
use Rattle.pb_pcap.specs.declared.registers.Turn.TheVariants as turns
use Rattle.pb_pcap.specs.Pcap.{first_sample, captured, emitted_in, passed, recorded, record_of}

-- the first sample since samples began anew is this tick
abbrev pub with_first_sample : PcapRegisters → List ℤ → PcapRegisters
with_first_sample registers positions =
    record registers { samples = Some (first_sample registers.ts positions) }

-- the record was handed out
abbrev pub finished : PcapRegisters → PcapRegisters
finished registers = passed (recorded registers) registers.ts

-- What a tick in this mode comes to, and the registers after it, or up to its record. The kept input isn't among them.
abbrev pub Turns : PcapMode → PcapSettings → PcapRegisters → PcapRegisters → Inputs → Turn → Type 0
Turns mode settings old new inputs turns.Quiet =
    (new ≡ captured mode settings old inputs) × (emitted_in mode settings old inputs ≡ emits.Nothing)
Turns mode settings old new inputs (turns.Over condition) =
    (new ≡ captured mode settings old inputs) × (emitted_in mode settings old inputs ≡ emits.Completed condition)
Turns mode settings old new inputs turns.Due =
    (finished new ≡ captured mode settings old inputs) × (new.room ≢ 0)
    × (emitted_in mode settings old inputs ≡ emits.Record (record_of new.samples new.ts inputs))
