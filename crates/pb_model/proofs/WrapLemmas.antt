-- Each kind of block inside a unit keeps its rules.
use Rattle.std.proofs.Common.{refl}
use Rattle.pb_buses.proofs.WrapLemmas.{Wraps}
use Rattle.pb_model.specs.declared.units.Unit.TheVariants as units
use Rattle.pb_model.specs.Units.{rules}
use Rattle.pb_logic.specs.Lut as luts
use Rattle.pb_logic.specs.Srgate as gates
use Rattle.pb_logic.specs.Div as dividers
use Rattle.pb_pulse.specs.Pulse as pulses
use Rattle.pb_logic.specs.Counter as counters
use Rattle.pb_logic.specs.Clock as clocks
use Rattle.pb_seq.specs.Seq as sequencers
use Rattle.pb_pcomp.specs.Pcomp as compares
use Rattle.pb_pcap.specs.Pcap as captures

pub lut_inside : Wraps luts.rules rules (λ b. units.Lut b)
lut_inside = record { goes_on = λ inputs t b. refl; emits = λ inputs t b. refl; rests = λ inputs b. refl; apart = λ a b e. cc e }

pub srgate_inside : Wraps gates.rules rules (λ b. units.Srgate b)
srgate_inside = record { goes_on = λ inputs t b. refl; emits = λ inputs t b. refl; rests = λ inputs b. refl; apart = λ a b e. cc e }

pub div_inside : Wraps dividers.rules rules (λ b. units.Div b)
div_inside = record { goes_on = λ inputs t b. refl; emits = λ inputs t b. refl; rests = λ inputs b. refl; apart = λ a b e. cc e }

pub pulse_inside : Wraps pulses.rules rules (λ b. units.Pulse b)
pulse_inside = record { goes_on = λ inputs t b. refl; emits = λ inputs t b. refl; rests = λ inputs b. refl; apart = λ a b e. cc e }

pub counter_inside : Wraps counters.rules rules (λ b. units.Counter b)
counter_inside = record { goes_on = λ inputs t b. refl; emits = λ inputs t b. refl; rests = λ inputs b. refl; apart = λ a b e. cc e }

pub clock_inside : Wraps clocks.rules rules (λ b. units.Clock b)
clock_inside = record { goes_on = λ inputs t b. refl; emits = λ inputs t b. refl; rests = λ inputs b. refl; apart = λ a b e. cc e }

pub seq_inside : Wraps sequencers.rules rules (λ b. units.Seq b)
seq_inside = record { goes_on = λ inputs t b. refl; emits = λ inputs t b. refl; rests = λ inputs b. refl; apart = λ a b e. cc e }

pub pcomp_inside : Wraps compares.rules rules (λ b. units.Pcomp b)
pcomp_inside = record { goes_on = λ inputs t b. refl; emits = λ inputs t b. refl; rests = λ inputs b. refl; apart = λ a b e. cc e }

pub pcap_inside : Wraps captures.rules rules (λ b. units.Pcap b)
pcap_inside = record { goes_on = λ inputs t b. refl; emits = λ inputs t b. refl; rests = λ inputs b. refl; apart = λ a b e. cc e }
