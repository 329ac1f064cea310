use Rattle.std.proofs.Common.{sym}
use Rattle.pb_buses.proofs.WrapLemmas.{wrapped_calm, wrapped_after}
use Rattle.pb_logic.specs.Lut as luts
use Rattle.pb_logic.specs.Srgate as gates
use Rattle.pb_logic.specs.Div as dividers
use Rattle.pb_pulse.specs.Pulse as pulses
use Rattle.pb_logic.specs.Counter as counters
use Rattle.pb_logic.specs.Clock as clocks
use Rattle.pb_seq.specs.Seq as sequencers
use Rattle.pb_pcomp.specs.Pcomp as compares
use Rattle.pb_pcap.specs.Pcap as captures
use Rattle.pb_model.specs.declared.units.Unit.TheVariants as units
use Rattle.pb_model.specs.Units.{rules}
use Rattle.pb_model.proofs.WrapLemmas.{lut_inside, srgate_inside, div_inside, pulse_inside, counter_inside, clock_inside, seq_inside, pcomp_inside, pcap_inside}
use Rattle.pb_model.proofs.units.UnitMachine.coast.Goals as goal

pub coast-requires-clause-calm : goal.coast-requires-clause-calm
coast-requires-clause-calm g c =
    wrapped_calm luts.rules rules (λ b. units.Lut b) lut_inside c.args.inputs.now c.args.ticks c.args.tick c.args.self.now c.in-Lut.block
    (sym c.in-Lut.is) c.requires.calm

pub returns-in-Lut-clause-left : goal.returns-in-Lut-clause-left
returns-in-Lut-clause-left g c =
    wrapped_after luts.rules rules (λ b. units.Lut b) lut_inside c.args.inputs.now c.args.ticks c.args.tick c.args.self.now c.in-Lut.block c.coast.new.self
    (sym c.in-Lut.is) c.coast.ensures.left

pub coast-requires-in-Srgate-clause-calm : goal.coast-requires-in-Srgate-clause-calm
coast-requires-in-Srgate-clause-calm g c =
    wrapped_calm gates.rules rules (λ b. units.Srgate b) srgate_inside c.args.inputs.now c.args.ticks c.args.tick c.args.self.now c.in-Srgate.block
    (sym c.in-Srgate.is) c.requires.calm

pub returns-in-Srgate-clause-left : goal.returns-in-Srgate-clause-left
returns-in-Srgate-clause-left g c =
    wrapped_after gates.rules rules (λ b. units.Srgate b) srgate_inside c.args.inputs.now c.args.ticks c.args.tick c.args.self.now c.in-Srgate.block c.coast-in-Srgate.new.self
    (sym c.in-Srgate.is) c.coast-in-Srgate.ensures.left

pub coast-requires-in-Div-clause-calm : goal.coast-requires-in-Div-clause-calm
coast-requires-in-Div-clause-calm g c =
    wrapped_calm dividers.rules rules (λ b. units.Div b) div_inside c.args.inputs.now c.args.ticks c.args.tick c.args.self.now c.in-Div.block
    (sym c.in-Div.is) c.requires.calm

pub returns-in-Div-clause-left : goal.returns-in-Div-clause-left
returns-in-Div-clause-left g c =
    wrapped_after dividers.rules rules (λ b. units.Div b) div_inside c.args.inputs.now c.args.ticks c.args.tick c.args.self.now c.in-Div.block c.coast-in-Div.new.self
    (sym c.in-Div.is) c.coast-in-Div.ensures.left

pub coast-requires-in-Pulse-clause-calm : goal.coast-requires-in-Pulse-clause-calm
coast-requires-in-Pulse-clause-calm g c =
    wrapped_calm pulses.rules rules (λ b. units.Pulse b) pulse_inside c.args.inputs.now c.args.ticks c.args.tick c.args.self.now c.in-Pulse.block
    (sym c.in-Pulse.is) c.requires.calm

pub returns-in-Pulse-clause-left : goal.returns-in-Pulse-clause-left
returns-in-Pulse-clause-left g c =
    wrapped_after pulses.rules rules (λ b. units.Pulse b) pulse_inside c.args.inputs.now c.args.ticks c.args.tick c.args.self.now c.in-Pulse.block c.coast-in-Pulse.new.self
    (sym c.in-Pulse.is) c.coast-in-Pulse.ensures.left

pub coast-requires-in-Counter-clause-calm : goal.coast-requires-in-Counter-clause-calm
coast-requires-in-Counter-clause-calm g c =
    wrapped_calm counters.rules rules (λ b. units.Counter b) counter_inside c.args.inputs.now c.args.ticks c.args.tick c.args.self.now c.in-Counter.block
    (sym c.in-Counter.is) c.requires.calm

pub returns-in-Counter-clause-left : goal.returns-in-Counter-clause-left
returns-in-Counter-clause-left g c =
    wrapped_after counters.rules rules (λ b. units.Counter b) counter_inside c.args.inputs.now c.args.ticks c.args.tick c.args.self.now c.in-Counter.block c.coast-in-Counter.new.self
    (sym c.in-Counter.is) c.coast-in-Counter.ensures.left

pub coast-requires-in-Clock-clause-calm : goal.coast-requires-in-Clock-clause-calm
coast-requires-in-Clock-clause-calm g c =
    wrapped_calm clocks.rules rules (λ b. units.Clock b) clock_inside c.args.inputs.now c.args.ticks c.args.tick c.args.self.now c.in-Clock.block
    (sym c.in-Clock.is) c.requires.calm

pub returns-in-Clock-clause-left : goal.returns-in-Clock-clause-left
returns-in-Clock-clause-left g c =
    wrapped_after clocks.rules rules (λ b. units.Clock b) clock_inside c.args.inputs.now c.args.ticks c.args.tick c.args.self.now c.in-Clock.block c.coast-in-Clock.new.self
    (sym c.in-Clock.is) c.coast-in-Clock.ensures.left

pub coast-requires-in-Seq-clause-calm : goal.coast-requires-in-Seq-clause-calm
coast-requires-in-Seq-clause-calm g c =
    wrapped_calm sequencers.rules rules (λ b. units.Seq b) seq_inside c.args.inputs.now c.args.ticks c.args.tick c.args.self.now c.in-Seq.block
    (sym c.in-Seq.is) c.requires.calm

pub returns-in-Seq-clause-left : goal.returns-in-Seq-clause-left
returns-in-Seq-clause-left g c =
    wrapped_after sequencers.rules rules (λ b. units.Seq b) seq_inside c.args.inputs.now c.args.ticks c.args.tick c.args.self.now c.in-Seq.block c.coast-in-Seq.new.self
    (sym c.in-Seq.is) c.coast-in-Seq.ensures.left

pub coast-requires-in-Pcomp-clause-calm : goal.coast-requires-in-Pcomp-clause-calm
coast-requires-in-Pcomp-clause-calm g c =
    wrapped_calm compares.rules rules (λ b. units.Pcomp b) pcomp_inside c.args.inputs.now c.args.ticks c.args.tick c.args.self.now c.in-Pcomp.block
    (sym c.in-Pcomp.is) c.requires.calm

pub returns-in-Pcomp-clause-left : goal.returns-in-Pcomp-clause-left
returns-in-Pcomp-clause-left g c =
    wrapped_after compares.rules rules (λ b. units.Pcomp b) pcomp_inside c.args.inputs.now c.args.ticks c.args.tick c.args.self.now c.in-Pcomp.block c.coast-in-Pcomp.new.self
    (sym c.in-Pcomp.is) c.coast-in-Pcomp.ensures.left

pub coast-requires-in-Pcap-clause-calm : goal.coast-requires-in-Pcap-clause-calm
coast-requires-in-Pcap-clause-calm g c =
    wrapped_calm captures.rules rules (λ b. units.Pcap b) pcap_inside c.args.inputs.now c.args.ticks c.args.tick c.args.self.now c.in-Pcap.block
    (sym c.in-Pcap.is) c.requires.calm

pub returns-in-Pcap-clause-left : goal.returns-in-Pcap-clause-left
returns-in-Pcap-clause-left g c =
    wrapped_after captures.rules rules (λ b. units.Pcap b) pcap_inside c.args.inputs.now c.args.ticks c.args.tick c.args.self.now c.in-Pcap.block c.coast-in-Pcap.new.self
    (sym c.in-Pcap.is) c.coast-in-Pcap.ensures.left
