-- Ticks of a PCAP that emit nothing.
use Rattle.std.proofs.Common.{◌≡◌, ℕ, ◌==◌, not, ◌&&◌, Bool, true, false, refl}
use Rattle.pb_buses.specs.declared.Inputs.{Inputs}
use Rattle.pb_buses.specs.declared.Record.{Record}
use Rattle.pb_buses.specs.declared.Emit.TheVariants as emits
use Rattle.pb_pcap.specs.declared.settings.PcapSettings.{PcapSettings}
use Rattle.pb_pcap.specs.declared.registers.PcapRegisters.{PcapRegisters}
use Rattle.pb_pcap.specs.declared.registers.PcapMode.{PcapMode}
use Rattle.pb_pcap.specs.declared.registers.PcapMode.TheVariants as modes
use Rattle.pb_pcap.specs.declared.registers.Turn.{Turn}
use Rattle.pb_pcap.specs.declared.registers.Turn.TheVariants as turns
use Rattle.pb_pcap.specs.Pcap.{Capture, enable, is_triggered, captured, recorded_at, emitted_of, emitted_in, emitted, is_quiet_in, is_quiet}
use Rattle.pb_pcap.specs.Turns.{Turns}

quiet_in_run : (enabled is_due is_full : Bool) (row : Record) → (enabled && not is_due) ≡ true → emitted_of enabled is_due is_full row ≡ emits.Nothing
quiet_in_run false is_due is_full row h = cc
quiet_in_run true true is_full row h = cc
quiet_in_run true false is_full row h = refl

quiet_in : (mode : PcapMode) (s : PcapSettings) (r : PcapRegisters) (i : Inputs) → is_quiet_in mode s r i ≡ true →
    emitted_in mode s r i ≡ emits.Nothing
quiet_in modes.Idle s r i h = refl
quiet_in modes.Armed s r i h = refl
quiet_in modes.Running s r i h = quiet_in_run (enable i) (is_triggered s r i) (r.room == 0) (recorded_at r i) h

pub quiet_emits : (block : Capture) (i : Inputs) (tick : ℕ) → is_quiet block i ≡ true → emitted block i tick ≡ emits.Nothing
quiet_emits block i tick h = quiet_in block.registers.mode block.settings block.registers i h

-- what such a tick comes to
pub quiet_turn : (mode : PcapMode) (s : PcapSettings) (old new : PcapRegisters) (i : Inputs) (turn : Turn) →
    is_quiet_in mode s old i ≡ true → Turns mode s old new i turn → new ≡ captured mode s old i
quiet_turn mode s old new i turns.Quiet h t = t.0
quiet_turn mode s old new i (turns.Over condition) h t = t.0
quiet_turn mode s old new i turns.Due h t =
    let none : emitted_in mode s old i ≡ emits.Nothing = quiet_in mode s old i h in
    cc
