use Rattle.std.proofs.Common.{sym}
use Rattle.pb_buses.proofs.WrapLemmas.{wrapped_horizon}
use Rattle.pb_logic.specs.Lut as luts
use Rattle.pb_logic.specs.Srgate as gates
use Rattle.pb_logic.specs.Div as dividers
use Rattle.pb_pulse.specs.Pulse as pulses
use Rattle.pb_logic.specs.Counter as counters
use Rattle.pb_logic.specs.Clock as clocks
use Rattle.pb_seq.specs.Seq as sequencers
use Rattle.pb_pcomp.specs.Pcomp as compares
use Rattle.pb_pcap.specs.Pcap as captures
use Rattle.pb_model.specs.declared.units.Unit.TheVariants as units
use Rattle.pb_model.specs.Units.{rules}
use Rattle.pb_model.proofs.WrapLemmas.{lut_inside, srgate_inside, div_inside, pulse_inside, counter_inside, clock_inside, seq_inside, pcomp_inside, pcap_inside}
use Rattle.pb_model.proofs.units.UnitMachine.horizon.Goals as goal

pub returns-in-Lut-clause-horizon : goal.returns-in-Lut-clause-horizon
returns-in-Lut-clause-horizon g c =
    wrapped_horizon luts.rules rules (λ b. units.Lut b) lut_inside c.args.inputs.now c.args.tick c.args.self.now c.in-Lut.block c.horizon.result
    (sym c.in-Lut.is) c.horizon.ensures.horizon

pub returns-in-Srgate-clause-horizon : goal.returns-in-Srgate-clause-horizon
returns-in-Srgate-clause-horizon g c =
    wrapped_horizon gates.rules rules (λ b. units.Srgate b) srgate_inside c.args.inputs.now c.args.tick c.args.self.now c.in-Srgate.block c.horizon-in-Srgate.result
    (sym c.in-Srgate.is) c.horizon-in-Srgate.ensures.horizon

pub returns-in-Div-clause-horizon : goal.returns-in-Div-clause-horizon
returns-in-Div-clause-horizon g c =
    wrapped_horizon dividers.rules rules (λ b. units.Div b) div_inside c.args.inputs.now c.args.tick c.args.self.now c.in-Div.block c.horizon-in-Div.result
    (sym c.in-Div.is) c.horizon-in-Div.ensures.horizon

pub returns-in-Pulse-clause-horizon : goal.returns-in-Pulse-clause-horizon
returns-in-Pulse-clause-horizon g c =
    wrapped_horizon pulses.rules rules (λ b. units.Pulse b) pulse_inside c.args.inputs.now c.args.tick c.args.self.now c.in-Pulse.block c.horizon-in-Pulse.result
    (sym c.in-Pulse.is) c.horizon-in-Pulse.ensures.horizon

pub returns-in-Counter-clause-horizon : goal.returns-in-Counter-clause-horizon
returns-in-Counter-clause-horizon g c =
    wrapped_horizon counters.rules rules (λ b. units.Counter b) counter_inside c.args.inputs.now c.args.tick c.args.self.now c.in-Counter.block c.horizon-in-Counter.result
    (sym c.in-Counter.is) c.horizon-in-Counter.ensures.horizon

pub returns-in-Clock-clause-horizon : goal.returns-in-Clock-clause-horizon
returns-in-Clock-clause-horizon g c =
    wrapped_horizon clocks.rules rules (λ b. units.Clock b) clock_inside c.args.inputs.now c.args.tick c.args.self.now c.in-Clock.block c.horizon-in-Clock.result
    (sym c.in-Clock.is) c.horizon-in-Clock.ensures.horizon

pub returns-in-Seq-clause-horizon : goal.returns-in-Seq-clause-horizon
returns-in-Seq-clause-horizon g c =
    wrapped_horizon sequencers.rules rules (λ b. units.Seq b) seq_inside c.args.inputs.now c.args.tick c.args.self.now c.in-Seq.block c.horizon-in-Seq.result
    (sym c.in-Seq.is) c.horizon-in-Seq.ensures.horizon

pub returns-in-Pcomp-clause-horizon : goal.returns-in-Pcomp-clause-horizon
returns-in-Pcomp-clause-horizon g c =
    wrapped_horizon compares.rules rules (λ b. units.Pcomp b) pcomp_inside c.args.inputs.now c.args.tick c.args.self.now c.in-Pcomp.block c.horizon-in-Pcomp.result
    (sym c.in-Pcomp.is) c.horizon-in-Pcomp.ensures.horizon

pub returns-in-Pcap-clause-horizon : goal.returns-in-Pcap-clause-horizon
returns-in-Pcap-clause-horizon g c =
    wrapped_horizon captures.rules rules (λ b. units.Pcap b) pcap_inside c.args.inputs.now c.args.tick c.args.self.now c.in-Pcap.block c.horizon-in-Pcap.result
    (sym c.in-Pcap.is) c.horizon-in-Pcap.ensures.horizon
