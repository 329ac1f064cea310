use Rattle.std.proofs.Common.{◌<◌, ◌∙◌, ap, arith}
use Rattle.pb_pcap.specs.declared.registers.PcapRegisters.{PcapRegisters}
use Rattle.pb_pcap.specs.Pcap.{Capture}
use Rattle.pb_pcap.proofs.DeadlineLemmas.{coasts}
use Rattle.pb_pcap.proofs.machine.PcapMachine.coast.Goals as goal

pub returns-clause-left : goal.returns-clause-left
returns-clause-left g c =
    let inputs = c.args.inputs.now in
    let before : Capture = record { settings = c.self.inside.settings; registers = c.self.inside.registers } in
    let put : PcapRegisters → Capture = λ r. record before { registers = r } in
    let some : 0 < c.args.ticks = omega arith in
    ap put c.coast.ensures
    ∙ coasts inputs c.args.ticks c.args.tick before c.args.self.now c.self.view_is some c.requires.calm
