-- A unit keeps what commands set of it, field by field.
use Rattle.std.proofs.Common.{◌≡◌, ◌≢◌, ℕ, ◌==◌, Bool, true, false, List, [], ◌∷◌, refl, sym, ap, ◌∙◌, if◌then◌else◌}
use Rattle.std.specs.Int.{w64, cast_signed}
use Rattle.pb_names.specs.declared.lut.TheConstants as lut
use Rattle.pb_names.specs.declared.srgate.TheConstants as srgate
use Rattle.pb_names.specs.declared.div.TheConstants as div
use Rattle.pb_names.specs.declared.counter.TheConstants as counter
use Rattle.pb_names.specs.declared.clock.TheConstants as clock
use Rattle.pb_names.specs.declared.pcomp.TheConstants as pcomp
use Rattle.pb_names.specs.declared.pulse.TheConstants as pulse
use Rattle.pb_names.specs.declared.seq.TheConstants as seq
use Rattle.pb_names.specs.declared.pcap.TheConstants as pcap
use Rattle.pb_buses.specs.declared.Inputs.{Inputs}
use Rattle.pb_buses.specs.Edges.{edge_of}
use Rattle.pb_logic.specs.Lut as luts
use Rattle.pb_logic.specs.Srgate as gates
use Rattle.pb_logic.specs.declared.SrgateSettings.{SrgateSettings}
use Rattle.pb_logic.specs.declared.SrgateRegisters.{SrgateRegisters}
use Rattle.pb_logic.specs.Div as dividers
use Rattle.pb_logic.specs.declared.DivSettings.{DivSettings}
use Rattle.pb_logic.specs.Counter as counters
use Rattle.pb_logic.specs.declared.CounterSettings.{CounterSettings}
use Rattle.pb_logic.specs.Clock as clocks
use Rattle.pb_logic.specs.declared.ClockSettings.{ClockSettings}
use Rattle.pb_pcomp.specs.Pcomp as compares
use Rattle.pb_pcomp.specs.declared.PcompSettings.{PcompSettings}
use Rattle.pb_pulse.specs.Pulse as pulses
use Rattle.pb_pulse.specs.declared.PulseSettings.{PulseSettings}
use Rattle.pb_seq.specs.Seq as sequencers
use Rattle.pb_pcap.specs.Pcap as captures
use Rattle.pb_seq.specs.declared.SeqSettings.{SeqSettings}
use Rattle.pb_model.specs.declared.units.Unit.{Unit as AnyUnit}
use Rattle.pb_model.specs.declared.units.Unit.TheVariants as units
use Rattle.pb_model.specs.Units.{next, with_field, with_words, armed, disarmed}
use Rattle.pb_model.proofs.PickLemmas.{Setter, AreFinal, AreApart, pick_again, pick_apart}

-- what a kind keeps: a value given again changes nothing, values of two fields can be given in any order, and
-- a tick leaves what is set; of all this the field is one that only sets
pub record Stays (B : Type 0) (with : B → ℕ → ℕ → B) (after : B → Inputs → ℕ → B) (Sets : ℕ → Type 0) : Type 0 where
  pub again : (b : B) (f x : ℕ) → Sets f → with (with b f x) f x ≡ with b f x
  pub apart : (b : B) (f g x y : ℕ) → f ≢ g → Sets g → with (with b f x) g y ≡ with (with b g y) f x
  pub ticks : (b : B) (f x : ℕ) (inputs : Inputs) (t : ℕ) → Sets f → with b f x ≡ b → with (after b inputs t) f x ≡ after b inputs t

abbrev pub always : ℕ → Type 0
always f = Unit {0}

abbrev div_setters : List (Setter DivSettings)
div_setters =
    record { field = div.DIVISOR; give = λ s x. record s { divisor = x } }
    ∷ record { field = div.FIRST_PULSE; give = λ s x. record s { first_pulse = dividers.first_pulse_of x } } ∷ []

div_final : AreFinal div_setters
div_final = ((λ s x. refl), ((λ s x. refl), tt))

div_apart : AreApart div_setters
div_apart = (((λ s x y. refl), tt), (tt, tt))

pub div_stays : Stays dividers.DivState dividers.with_field dividers.next always
div_stays =
    record {
      again = λ b f x k. ap (λ s. record { settings = s; registers = b.registers }) (pick_again div_setters div_final f b.settings x);
      apart = λ b f g x y ne k. ap (λ s. record { settings = s; registers = b.registers }) (pick_apart div_setters div_apart f g b.settings x y ne);
      ticks = λ b f x inputs t k e. ap (λ s. record { settings = s; registers = (dividers.next b inputs t).registers }) (ap (λ (c : dividers.DivState). c.settings) e);
    }

abbrev counter_setters : List (Setter CounterSettings)
counter_setters =
    record { field = counter.START; give = λ s x. record s { start = cast_signed w64 x } }
    ∷ record { field = counter.STEP; give = λ s x. record s { step = x } }
    ∷ record { field = counter.MIN; give = λ s x. record s { min = cast_signed w64 x } }
    ∷ record { field = counter.MAX; give = λ s x. record s { max = cast_signed w64 x } } ∷ []

counter_final : AreFinal counter_setters
counter_final = ((λ s x. refl), ((λ s x. refl), ((λ s x. refl), ((λ s x. refl), tt))))

counter_apart : AreApart counter_setters
counter_apart = (((λ s x y. refl), ((λ s x y. refl), ((λ s x y. refl), tt))), (((λ s x y. refl), ((λ s x y. refl), tt)), (((λ s x y. refl), tt), (tt, tt))))

pub counter_stays : Stays counters.CounterState counters.with_field counters.next always
counter_stays =
    record {
      again = λ b f x k. ap (λ s. record { settings = s; registers = b.registers }) (pick_again counter_setters counter_final f b.settings x);
      apart = λ b f g x y ne k. ap (λ s. record { settings = s; registers = b.registers }) (pick_apart counter_setters counter_apart f g b.settings x y ne);
      ticks = λ b f x inputs t k e. ap (λ s. record { settings = s; registers = (counters.next b inputs t).registers }) (ap (λ (c : counters.CounterState). c.settings) e);
    }

abbrev clock_setters : List (Setter ClockSettings)
clock_setters =
    record { field = clock.PERIOD; give = λ s x. record { period = x; width = s.width } }
    ∷ record { field = clock.WIDTH; give = λ s x. record { period = s.period; width = x } } ∷ []

clock_final : AreFinal clock_setters
clock_final = ((λ s x. refl), ((λ s x. refl), tt))

clock_apart : AreApart clock_setters
clock_apart = (((λ s x y. refl), tt), (tt, tt))

pub clock_stays : Stays clocks.ClockState clocks.with_field clocks.next always
clock_stays =
    record {
      again = λ b f x k. ap (λ s. record { settings = s; registers = b.registers }) (pick_again clock_setters clock_final f b.settings x);
      apart = λ b f g x y ne k. ap (λ s. record { settings = s; registers = b.registers }) (pick_apart clock_setters clock_apart f g b.settings x y ne);
      ticks = λ b f x inputs t k e. ap (λ s. record { settings = s; registers = (clocks.next b inputs t).registers }) (ap (λ (c : clocks.ClockState). c.settings) e);
    }

abbrev compare_setters : List (Setter PcompSettings)
compare_setters =
    record { field = pcomp.PRE_START; give = λ s x. record s { pre_start = x } }
    ∷ record { field = pcomp.START; give = λ s x. record s { start = cast_signed w64 x } }
    ∷ record { field = pcomp.STEP; give = λ s x. record s { step = x } }
    ∷ record { field = pcomp.WIDTH; give = λ s x. record s { width = x } }
    ∷ record { field = pcomp.PULSES; give = λ s x. record s { pulses = x } }
    ∷ record { field = pcomp.RELATIVE; give = λ s x. record s { relative = compares.reference_of x } }
    ∷ record { field = pcomp.DIR; give = λ s x. record s { direction = compares.direction_of x } } ∷ []

compare_final : AreFinal compare_setters
compare_final = ((λ s x. refl), ((λ s x. refl), ((λ s x. refl), ((λ s x. refl), ((λ s x. refl), ((λ s x. refl), ((λ s x. refl), tt)))))))

compare_apart : AreApart compare_setters
compare_apart = (((λ s x y. refl), ((λ s x y. refl), ((λ s x y. refl), ((λ s x y. refl), ((λ s x y. refl), ((λ s x y. refl), tt)))))), (((λ s x y. refl), ((λ s x y. refl), ((λ s x y. refl), ((λ s x y. refl), ((λ s x y. refl), tt))))), (((λ s x y. refl), ((λ s x y. refl), ((λ s x y. refl), ((λ s x y. refl), tt)))), (((λ s x y. refl), ((λ s x y. refl), ((λ s x y. refl), tt))), (((λ s x y. refl), ((λ s x y. refl), tt)), (((λ s x y. refl), tt), (tt, tt)))))))

pub compare_stays : Stays compares.Compare compares.with_field compares.next always
compare_stays =
    record {
      again = λ b f x k. ap (λ s. record { settings = s; registers = b.registers }) (pick_again compare_setters compare_final f b.settings x);
      apart = λ b f g x y ne k. ap (λ s. record { settings = s; registers = b.registers }) (pick_apart compare_setters compare_apart f g b.settings x y ne);
      ticks = λ b f x inputs t k e. ap (λ s. record { settings = s; registers = (compares.next b inputs t).registers }) (ap (λ (c : compares.Compare). c.settings) e);
    }

abbrev lut_setters : List (Setter luts.LutState)
lut_setters =
    record { field = lut.FUNC; give = λ s x. record { settings = record { function = x }; registers = s.registers } } ∷ []

lut_final : AreFinal lut_setters
lut_final = ((λ s x. refl), tt)

lut_apart : AreApart lut_setters
lut_apart = (tt, tt)

lut_ticks : (b : luts.LutState) (f x : ℕ) (inputs : Inputs) (t : ℕ) → luts.with_field b f x ≡ b →
    luts.with_field (luts.next b inputs t) f x ≡ luts.next b inputs t
lut_ticks b f x inputs t e = by (f == lut.FUNC) e
  where
    by : (c : Bool) → (if c then record { settings = record { function = x }; registers = b.registers } else b) ≡ b →
        (if c then record { settings = record { function = x }; registers = (luts.next b inputs t).registers } else luts.next b inputs t)
        ≡ luts.next b inputs t
    by true e = ap (λ s. record { settings = s; registers = (luts.next b inputs t).registers }) (ap (λ (c : luts.LutState). c.settings) e)
    by false e = refl

pub lut_stays : Stays luts.LutState luts.with_field luts.next always
lut_stays =
    record {
      again = λ b f x k. pick_again lut_setters lut_final f b x;
      apart = λ b f g x y ne k. pick_apart lut_setters lut_apart f g b x y ne;
      ticks = λ b f x inputs t k e. lut_ticks b f x inputs t e;
    }

abbrev gate_setters : List (Setter SrgateSettings)
gate_setters =
    record { field = srgate.WHEN_DISABLED; give = λ s x. record s { when_disabled = gates.when_disabled_of x } }
    ∷ record { field = srgate.SET_EDGE; give = λ s x. record s { set_edge = edge_of x } }
    ∷ record { field = srgate.RST_EDGE; give = λ s x. record s { rst_edge = edge_of x } } ∷ []

gate_final : AreFinal gate_setters
gate_final = ((λ s x. refl), ((λ s x. refl), ((λ s x. refl), tt)))

gate_apart : AreApart gate_setters
gate_apart = (((λ s x y. refl), ((λ s x y. refl), tt)), (((λ s x y. refl), tt), (tt, tt)))

-- the field forces nothing
abbrev pub Forces_nothing : ℕ → Type 0
Forces_nothing f = (r : SrgateRegisters) → gates.with_force r f ≡ r

pub gate_stays : Stays gates.SrgateState gates.with_field gates.next Forces_nothing
gate_stays =
    record {
      again = λ b f x k.
          ap (λ s. record { settings = s; registers = gates.with_force (gates.with_force b.registers f) f }) (pick_again gate_setters gate_final f b.settings x)
          ∙ ap (λ r. record { settings = gates.with_setting b.settings f x; registers = r }) (k (gates.with_force b.registers f));
      apart = λ b f g x y ne k.
          ap (λ s. record { settings = s; registers = gates.with_force (gates.with_force b.registers f) g }) (pick_apart gate_setters gate_apart f g b.settings x y ne)
          ∙ ap (λ r. record { settings = gates.with_setting (gates.with_setting b.settings g y) f x; registers = r })
          (k (gates.with_force b.registers f) ∙ sym (ap (λ r. gates.with_force r f) (k b.registers)));
      ticks = λ b f x inputs t k e.
          ap (λ s. record { settings = s; registers = gates.with_force (gates.next b inputs t).registers f }) (ap (λ (c : gates.SrgateState). c.settings) e)
          ∙ ap (λ r. record { settings = b.settings; registers = r }) (k (gates.next b inputs t).registers);
    }

abbrev pulse_setters : List (Setter PulseSettings)
pulse_setters =
    record { field = pulse.DELAY; give = λ s x. record s { delay = x } }
    ∷ record { field = pulse.WIDTH; give = λ s x. record s { width = x } }
    ∷ record { field = pulse.PULSES; give = λ s x. record s { pulses = x } }
    ∷ record { field = pulse.STEP; give = λ s x. record s { step = x } }
    ∷ record { field = pulse.TRIG_EDGE; give = λ s x. record s { trig_edge = edge_of x } } ∷ []

pulse_final : AreFinal pulse_setters
pulse_final = ((λ s x. refl), ((λ s x. refl), ((λ s x. refl), ((λ s x. refl), ((λ s x. refl), tt)))))

pulse_apart : AreApart pulse_setters
pulse_apart = (((λ s x y. refl), ((λ s x y. refl), ((λ s x y. refl), ((λ s x y. refl), tt)))), (((λ s x y. refl), ((λ s x y. refl), ((λ s x y. refl), tt))), (((λ s x y. refl), ((λ s x y. refl), tt)), (((λ s x y. refl), tt), (tt, tt)))))

-- a tick leaves the settings
pulse_settings : (b : pulses.Generator) (inputs : Inputs) (t : ℕ) → (pulses.next b inputs t).settings ≡ b.settings
pulse_settings b inputs t = by (pulses.enable inputs)
  where
    by : (c : Bool) → (if c then pulses.running b inputs t else pulses.stopped b).settings ≡ b.settings
    by true = refl
    by false = refl

pulse_ticks : (b : pulses.Generator) (f x : ℕ) (inputs : Inputs) (t : ℕ) → pulses.with_field b f x ≡ b →
    pulses.with_field (pulses.next b inputs t) f x ≡ pulses.next b inputs t
pulse_ticks b f x inputs t e =
    let same : pulses.with_setting b.settings f x ≡ b.settings = ap (λ (c : pulses.Generator). c.settings) e in
    ap (λ s. record (pulses.next b inputs t) { settings = s })
    (ap (λ s. pulses.with_setting s f x) (pulse_settings b inputs t) ∙ (same ∙ sym (pulse_settings b inputs t)))

pub pulse_stays : Stays pulses.Generator pulses.with_field pulses.next always
pulse_stays =
    record {
      again = λ b f x k. ap (λ s. record b { settings = s }) (pick_again pulse_setters pulse_final f b.settings x);
      apart = λ b f g x y ne k. ap (λ s. record b { settings = s }) (pick_apart pulse_setters pulse_apart f g b.settings x y ne);
      ticks = λ b f x inputs t k e. pulse_ticks b f x inputs t e;
    }

abbrev sequencer_setters : List (Setter SeqSettings)
sequencer_setters =
    record { field = seq.PRESCALE; give = λ s x. record s { prescale = x } }
    ∷ record { field = seq.REPEATS; give = λ s x. record s { repeats = x } } ∷ []

sequencer_final : AreFinal sequencer_setters
sequencer_final = ((λ s x. refl), ((λ s x. refl), tt))

sequencer_apart : AreApart sequencer_setters
sequencer_apart = (((λ s x y. refl), tt), (tt, tt))

pub sequencer_stays : Stays sequencers.Sequencer sequencers.with_field sequencers.next always
sequencer_stays =
    record {
      again = λ b f x k. ap (λ s. record b { settings = s }) (pick_again sequencer_setters sequencer_final f b.settings x);
      apart = λ b f g x y ne k. ap (λ s. record b { settings = s }) (pick_apart sequencer_setters sequencer_apart f g b.settings x y ne);
      ticks = λ b f x inputs t k e. ap (λ s. record (sequencers.next b inputs t) { settings = s }) (ap (λ (c : sequencers.Sequencer). c.settings) e);
    }

abbrev capture_setters : List (Setter captures.Capture)
capture_setters =
    record { field = pcap.TRIG_EDGE; give = λ s x. record { settings = record { trig_edge = edge_of x }; registers = s.registers } } ∷ []

capture_final : AreFinal capture_setters
capture_final = ((λ s x. refl), tt)

capture_apart : AreApart capture_setters
capture_apart = (tt, tt)

capture_ticks : (b : captures.Capture) (f x : ℕ) (inputs : Inputs) (t : ℕ) → captures.with_field b f x ≡ b →
    captures.with_field (captures.next b inputs t) f x ≡ captures.next b inputs t
capture_ticks b f x inputs t e = by (f == pcap.TRIG_EDGE) e
  where
    by : (c : Bool) → (if c then record { settings = record { trig_edge = edge_of x }; registers = b.registers } else b) ≡ b →
        (if c then record { settings = record { trig_edge = edge_of x }; registers = captures.registers_after b inputs } else captures.next b inputs t)
        ≡ captures.next b inputs t
    by true e = ap (λ s. record { settings = s; registers = captures.registers_after b inputs }) (ap (λ (c : captures.Capture). c.settings) e)
    by false e = refl

pub capture_stays : Stays captures.Capture captures.with_field captures.next always
capture_stays =
    record {
      again = λ b f x k. pick_again capture_setters capture_final f b x;
      apart = λ b f g x y ne k. pick_apart capture_setters capture_apart f g b x y ne;
      ticks = λ b f x inputs t k e. capture_ticks b f x inputs t e;
    }

-- Units.

-- the field of a unit only sets
abbrev pub Sets : AnyUnit → ℕ → Type 0
Sets (units.Srgate block) f = Forces_nothing f
Sets _ f = Unit {0}

pub unit_again : (u : AnyUnit) (f x : ℕ) → Sets u f → with_field (with_field u f x) f x ≡ with_field u f x
unit_again (units.Lut b) f x k = ap units.Lut (lut_stays.again b f x k)
unit_again (units.Srgate b) f x k = ap units.Srgate (gate_stays.again b f x k)
unit_again (units.Div b) f x k = ap units.Div (div_stays.again b f x k)
unit_again (units.Pulse b) f x k = ap units.Pulse (pulse_stays.again b f x k)
unit_again (units.Counter b) f x k = ap units.Counter (counter_stays.again b f x k)
unit_again (units.Clock b) f x k = ap units.Clock (clock_stays.again b f x k)
unit_again (units.Seq b) f x k = ap units.Seq (sequencer_stays.again b f x k)
unit_again (units.Pcomp b) f x k = ap units.Pcomp (compare_stays.again b f x k)
unit_again (units.Pcap b) f x k = ap units.Pcap (capture_stays.again b f x k)

pub unit_apart : (u : AnyUnit) (f g x y : ℕ) → f ≢ g → Sets u g → with_field (with_field u f x) g y ≡ with_field (with_field u g y) f x
unit_apart (units.Lut b) f g x y ne k = ap units.Lut (lut_stays.apart b f g x y ne k)
unit_apart (units.Srgate b) f g x y ne k = ap units.Srgate (gate_stays.apart b f g x y ne k)
unit_apart (units.Div b) f g x y ne k = ap units.Div (div_stays.apart b f g x y ne k)
unit_apart (units.Pulse b) f g x y ne k = ap units.Pulse (pulse_stays.apart b f g x y ne k)
unit_apart (units.Counter b) f g x y ne k = ap units.Counter (counter_stays.apart b f g x y ne k)
unit_apart (units.Clock b) f g x y ne k = ap units.Clock (clock_stays.apart b f g x y ne k)
unit_apart (units.Seq b) f g x y ne k = ap units.Seq (sequencer_stays.apart b f g x y ne k)
unit_apart (units.Pcomp b) f g x y ne k = ap units.Pcomp (compare_stays.apart b f g x y ne k)
unit_apart (units.Pcap b) f g x y ne k = ap units.Pcap (capture_stays.apart b f g x y ne k)

pub unit_ticks : (u : AnyUnit) (f x : ℕ) (inputs : Inputs) (t : ℕ) → Sets u f → with_field u f x ≡ u → with_field (next u inputs t) f x ≡ next u inputs t
unit_ticks (units.Lut b) f x inputs t k e =
    let i : luts.with_field b f x ≡ b = cc in
    ap units.Lut (lut_stays.ticks b f x inputs t k i)
unit_ticks (units.Srgate b) f x inputs t k e =
    let i : gates.with_field b f x ≡ b = cc in
    ap units.Srgate (gate_stays.ticks b f x inputs t k i)
unit_ticks (units.Div b) f x inputs t k e =
    let i : dividers.with_field b f x ≡ b = cc in
    ap units.Div (div_stays.ticks b f x inputs t k i)
unit_ticks (units.Pulse b) f x inputs t k e =
    let i : pulses.with_field b f x ≡ b = cc in
    ap units.Pulse (pulse_stays.ticks b f x inputs t k i)
unit_ticks (units.Counter b) f x inputs t k e =
    let i : counters.with_field b f x ≡ b = cc in
    ap units.Counter (counter_stays.ticks b f x inputs t k i)
unit_ticks (units.Clock b) f x inputs t k e =
    let i : clocks.with_field b f x ≡ b = cc in
    ap units.Clock (clock_stays.ticks b f x inputs t k i)
unit_ticks (units.Seq b) f x inputs t k e =
    let i : sequencers.with_field b f x ≡ b = cc in
    ap units.Seq (sequencer_stays.ticks b f x inputs t k i)
unit_ticks (units.Pcomp b) f x inputs t k e =
    let i : compares.with_field b f x ≡ b = cc in
    ap units.Pcomp (compare_stays.ticks b f x inputs t k i)
unit_ticks (units.Pcap b) f x inputs t k e =
    let i : captures.with_field b f x ≡ b = cc in
    ap units.Pcap (capture_stays.ticks b f x inputs t k i)

-- a table write and a setting can be made in any order
pub unit_words : (u : AnyUnit) (f x : ℕ) (words : List ℕ) → with_field (with_words words u) f x ≡ with_words words (with_field u f x)
unit_words (units.Lut b) f x words = refl
unit_words (units.Srgate b) f x words = refl
unit_words (units.Div b) f x words = refl
unit_words (units.Pulse b) f x words = refl
unit_words (units.Counter b) f x words = refl
unit_words (units.Clock b) f x words = refl
unit_words (units.Seq b) f x words = refl
unit_words (units.Pcomp b) f x words = refl
unit_words (units.Pcap b) f x words = refl

-- arming and a setting can be made in any order, and so can disarming
pub unit_arms : (u : AnyUnit) (f x room : ℕ) → with_field (armed room u) f x ≡ armed room (with_field u f x)
unit_arms (units.Lut b) f x room = refl
unit_arms (units.Srgate b) f x room = refl
unit_arms (units.Div b) f x room = refl
unit_arms (units.Pulse b) f x room = refl
unit_arms (units.Counter b) f x room = refl
unit_arms (units.Clock b) f x room = refl
unit_arms (units.Seq b) f x room = refl
unit_arms (units.Pcomp b) f x room = refl
unit_arms (units.Pcap b) f x room = by (f == pcap.TRIG_EDGE)
  where
    by : (c : Bool) →
        units.Pcap (if c then record { settings = record { trig_edge = edge_of x }; registers = (captures.armed b room).registers } else captures.armed b room)
        ≡ units.Pcap (captures.armed (if c then record { settings = record { trig_edge = edge_of x }; registers = b.registers } else b) room)
    by true = refl
    by false = refl

pub unit_disarms : (u : AnyUnit) (f x : ℕ) → with_field (disarmed u) f x ≡ disarmed (with_field u f x)
unit_disarms (units.Lut b) f x = refl
unit_disarms (units.Srgate b) f x = refl
unit_disarms (units.Div b) f x = refl
unit_disarms (units.Pulse b) f x = refl
unit_disarms (units.Counter b) f x = refl
unit_disarms (units.Clock b) f x = refl
unit_disarms (units.Seq b) f x = refl
unit_disarms (units.Pcomp b) f x = refl
unit_disarms (units.Pcap b) f x = by (f == pcap.TRIG_EDGE)
  where
    by : (c : Bool) →
        units.Pcap (if c then record { settings = record { trig_edge = edge_of x }; registers = (captures.disarmed b).registers } else captures.disarmed b)
        ≡ units.Pcap (captures.disarmed (if c then record { settings = record { trig_edge = edge_of x }; registers = b.registers } else b))
    by true = refl
    by false = refl
