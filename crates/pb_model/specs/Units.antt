-- A unit is one of the nine kinds of block, with its settings and registers. What is said of it is what is
-- said of the block inside.
use Rattle.std.specs.Prelude.{◌≡◌, ℕ, ◌==◌, Bool, true, List, [], length, filter, if◌then◌else◌, refl}
use Rattle.pb_fields.specs.Catalogue.{FieldRow}
use Rattle.pb_fields.specs.Places.{fields_of}
use Rattle.pb_fields.specs.Entries.{is_bit_out, is_pos_out}
use Rattle.pb_buses.specs.declared.Inputs.{Inputs}
use Rattle.pb_buses.specs.declared.Outputs.{Outputs}
use Rattle.pb_buses.specs.declared.Emit.{Emit}
use Rattle.pb_buses.specs.Rules.{Rules, CountsAreUnseen, is_record}
use Rattle.pb_names.specs.declared.lut.TheConstants as lut
use Rattle.pb_names.specs.declared.srgate.TheConstants as srgate
use Rattle.pb_names.specs.declared.div.TheConstants as div
use Rattle.pb_names.specs.declared.pulse.TheConstants as pulse
use Rattle.pb_names.specs.declared.counter.TheConstants as counter
use Rattle.pb_names.specs.declared.clock.TheConstants as clock
use Rattle.pb_names.specs.declared.seq.TheConstants as seq
use Rattle.pb_names.specs.declared.pcomp.TheConstants as pcomp
use Rattle.pb_names.specs.declared.pcap.TheConstants as pcap
use Rattle.pb_logic.specs.Lut as luts
use Rattle.pb_logic.specs.Srgate as gates
use Rattle.pb_logic.specs.Div as dividers
use Rattle.pb_logic.specs.Counter as counters
use Rattle.pb_logic.specs.Clock as clocks
use Rattle.pb_pulse.specs.Pulse as pulses
use Rattle.pb_seq.specs.Seq as sequencers
use Rattle.pb_pcomp.specs.Pcomp as compares
use Rattle.pb_pcap.specs.Pcap as captures
use Rattle.pb_model.specs.declared.units.Unit.{Unit as AnyUnit}
use Rattle.pb_model.specs.declared.units.Unit.TheVariants as units

-- the place of its kind in the catalogue
abbrev pub place_of : AnyUnit → ℕ
place_of (units.Lut block) = lut.BLOCK
place_of (units.Srgate block) = srgate.BLOCK
place_of (units.Div block) = div.BLOCK
place_of (units.Pulse block) = pulse.BLOCK
place_of (units.Counter block) = counter.BLOCK
place_of (units.Clock block) = clock.BLOCK
place_of (units.Seq block) = seq.BLOCK
place_of (units.Pcomp block) = pcomp.BLOCK
place_of (units.Pcap block) = pcap.BLOCK

-- one tick of it
abbrev pub next : AnyUnit → Inputs → ℕ → AnyUnit
next (units.Lut block) inputs tick = units.Lut (luts.rules.next block inputs tick)
next (units.Srgate block) inputs tick = units.Srgate (gates.rules.next block inputs tick)
next (units.Div block) inputs tick = units.Div (dividers.rules.next block inputs tick)
next (units.Pulse block) inputs tick = units.Pulse (pulses.rules.next block inputs tick)
next (units.Counter block) inputs tick = units.Counter (counters.rules.next block inputs tick)
next (units.Clock block) inputs tick = units.Clock (clocks.rules.next block inputs tick)
next (units.Seq block) inputs tick = units.Seq (sequencers.rules.next block inputs tick)
next (units.Pcomp block) inputs tick = units.Pcomp (compares.rules.next block inputs tick)
next (units.Pcap block) inputs tick = units.Pcap (captures.rules.next block inputs tick)

-- what that tick emits
abbrev pub emitted : AnyUnit → Inputs → ℕ → Emit
emitted (units.Lut block) inputs tick = luts.rules.emitted block inputs tick
emitted (units.Srgate block) inputs tick = gates.rules.emitted block inputs tick
emitted (units.Div block) inputs tick = dividers.rules.emitted block inputs tick
emitted (units.Pulse block) inputs tick = pulses.rules.emitted block inputs tick
emitted (units.Counter block) inputs tick = counters.rules.emitted block inputs tick
emitted (units.Clock block) inputs tick = clocks.rules.emitted block inputs tick
emitted (units.Seq block) inputs tick = sequencers.rules.emitted block inputs tick
emitted (units.Pcomp block) inputs tick = compares.rules.emitted block inputs tick
emitted (units.Pcap block) inputs tick = captures.rules.emitted block inputs tick

-- whether that tick emits nothing: every tick of a kind but PCAP does
abbrev pub is_quiet : AnyUnit → Inputs → Bool
is_quiet (units.Pcap block) inputs = captures.is_quiet block inputs
is_quiet _ inputs = true

-- without its running counts
abbrev pub uncounted : Inputs → AnyUnit → AnyUnit
uncounted inputs (units.Lut block) = units.Lut (luts.rules.uncounted inputs block)
uncounted inputs (units.Srgate block) = units.Srgate (gates.rules.uncounted inputs block)
uncounted inputs (units.Div block) = units.Div (dividers.rules.uncounted inputs block)
uncounted inputs (units.Pulse block) = units.Pulse (pulses.rules.uncounted inputs block)
uncounted inputs (units.Counter block) = units.Counter (counters.rules.uncounted inputs block)
uncounted inputs (units.Clock block) = units.Clock (clocks.rules.uncounted inputs block)
uncounted inputs (units.Seq block) = units.Seq (sequencers.rules.uncounted inputs block)
uncounted inputs (units.Pcomp block) = units.Pcomp (compares.rules.uncounted inputs block)
uncounted inputs (units.Pcap block) = units.Pcap (captures.rules.uncounted inputs block)

abbrev pub rules : Rules AnyUnit
rules = record { next = next; emitted = emitted; uncounted = uncounted }

-- what it shows on the buses
abbrev pub shown : AnyUnit → Outputs
shown (units.Lut block) = luts.shown block
shown (units.Srgate block) = gates.shown block
shown (units.Div block) = dividers.shown block
shown (units.Pulse block) = pulses.shown block
shown (units.Counter block) = counters.shown block
shown (units.Clock block) = clocks.shown block
shown (units.Seq block) = sequencers.shown block
shown (units.Pcomp block) = compares.shown block
shown (units.Pcap block) = captures.shown block

-- whether a field takes a raw value
abbrev pub IsSettable : AnyUnit → ℕ → ℕ → Type 0
IsSettable (units.Lut block) field raw = luts.IsSettable block field raw
IsSettable (units.Srgate block) field raw = gates.IsSettable block field raw
IsSettable (units.Div block) field raw = dividers.IsSettable block field raw
IsSettable (units.Pulse block) field raw = pulses.IsSettable block field raw
IsSettable (units.Counter block) field raw = counters.IsSettable block field raw
IsSettable (units.Clock block) field raw = clocks.IsSettable block field raw
IsSettable (units.Seq block) field raw = sequencers.IsSettable block field raw
IsSettable (units.Pcomp block) field raw = compares.IsSettable block field raw
IsSettable (units.Pcap block) field raw = captures.IsSettable block field raw

-- with this raw value in a field
abbrev pub with_field : AnyUnit → ℕ → ℕ → AnyUnit
with_field (units.Lut block) field raw = units.Lut (luts.with_field block field raw)
with_field (units.Srgate block) field raw = units.Srgate (gates.with_field block field raw)
with_field (units.Div block) field raw = units.Div (dividers.with_field block field raw)
with_field (units.Pulse block) field raw = units.Pulse (pulses.with_field block field raw)
with_field (units.Counter block) field raw = units.Counter (counters.with_field block field raw)
with_field (units.Clock block) field raw = units.Clock (clocks.with_field block field raw)
with_field (units.Seq block) field raw = units.Seq (sequencers.with_field block field raw)
with_field (units.Pcomp block) field raw = units.Pcomp (compares.with_field block field raw)
with_field (units.Pcap block) field raw = units.Pcap (captures.with_field block field raw)

-- whether a field is one that is read
abbrev pub IsRead : AnyUnit → ℕ → Type 0
IsRead (units.Lut block) field = ⊥
IsRead (units.Srgate block) field = ⊥
IsRead (units.Div block) field = dividers.IsRead field
IsRead (units.Pulse block) field = pulses.IsRead field
IsRead (units.Counter block) field = ⊥
IsRead (units.Clock block) field = ⊥
IsRead (units.Seq block) field = sequencers.IsRead field
IsRead (units.Pcomp block) field = compares.IsRead field
IsRead (units.Pcap block) field = ⊥

-- the value of a read field
abbrev pub value_read : AnyUnit → ℕ → ℕ
value_read (units.Lut block) field = 0
value_read (units.Srgate block) field = 0
value_read (units.Div block) field = dividers.value_read block field
value_read (units.Pulse block) field = pulses.value_read block field
value_read (units.Counter block) field = 0
value_read (units.Clock block) field = 0
value_read (units.Seq block) field = sequencers.value_read block field
value_read (units.Pcomp block) field = compares.value_read block field
value_read (units.Pcap block) field = 0

-- Tables.

-- the words of its table: a sequencer has one
abbrev pub words_of : AnyUnit → List ℕ
words_of (units.Seq block) = block.table
words_of _ = []

-- after a table write that leaves these words
abbrev pub with_words : List ℕ → AnyUnit → AnyUnit
with_words words (units.Seq block) = units.Seq (sequencers.with_table block words)
with_words words unit = unit

-- Arming: of a unit that is PCAP.

-- whether it is neither armed nor running
abbrev pub is_idle : AnyUnit → Bool
is_idle (units.Pcap block) = captures.is_idle block
is_idle _ = true

-- armed, with room for so many records
abbrev pub armed : ℕ → AnyUnit → AnyUnit
armed room (units.Pcap block) = units.Pcap (captures.armed block room)
armed room unit = unit

abbrev pub disarmed : AnyUnit → AnyUnit
disarmed (units.Pcap block) = units.Pcap (captures.disarmed block)
disarmed unit = unit

-- As the box opens.

-- the unit, by the place of its kind in the catalogue
abbrev pub opening_unit : ℕ → AnyUnit
opening_unit b =
    if b == lut.BLOCK then units.Lut luts.opening else (
    if b == srgate.BLOCK then units.Srgate gates.opening else (
    if b == div.BLOCK then units.Div dividers.opening else (
    if b == pulse.BLOCK then units.Pulse pulses.opening else (
    if b == counter.BLOCK then units.Counter counters.opening else (
    if b == clock.BLOCK then units.Clock clocks.opening else (
    if b == seq.BLOCK then units.Seq sequencers.opening else (
    if b == pcomp.BLOCK then units.Pcomp compares.opening else (
    units.Pcap captures.opening))))))))

-- how many bit outputs and position outputs a kind has
unfoldable pub bit_outputs : ℕ → ℕ
bit_outputs kind = length (filter (λ (f : FieldRow). is_bit_out f.holds) (fields_of kind))

unfoldable pub position_outputs : ℕ → ℕ
position_outputs kind = length (filter (λ (f : FieldRow). is_pos_out f.holds) (fields_of kind))

-- Neither what it shows nor whether it emits depends on its running counts.
pub counts_unseen : CountsAreUnseen rules shown
counts_unseen =
    record {
      outputs = λ seen unit. elim unit as (λ u. shown (uncounted seen u) ≡ shown u) [ units.Lut block ↦ refl | units.Srgate block ↦ refl | units.Div block ↦ refl | units.Pulse block ↦ refl | units.Counter block ↦ refl | units.Clock block ↦ refl | units.Seq block ↦ refl | units.Pcomp block ↦ refl | units.Pcap block ↦ refl ];
      records = λ seen inputs tick unit. elim unit as (λ u. is_record (emitted (uncounted seen u) inputs tick) ≡ is_record (emitted u inputs tick)) [ units.Lut block ↦ refl | units.Srgate block ↦ refl | units.Div block ↦ refl | units.Pulse block ↦ refl | units.Counter block ↦ refl | units.Clock block ↦ refl | units.Seq block ↦ refl | units.Pcomp block ↦ refl | units.Pcap block ↦ captures.counts_unseen.records seen inputs tick block ];
    }
