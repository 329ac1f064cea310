-- The inputs, records and layouts of the worked examples.
use Rattle.std.specs.Prelude.{ℕ, zero, suc, ◌+◌, ℤ, pos, negsuc, Bool, true, false, List, [], ◌∷◌, ◌++◌, replicate}
use Rattle.pb_buses.specs.declared.Inputs.{Inputs}
use Rattle.pb_buses.specs.declared.Record.{Record}
use Rattle.pb_buses.specs.declared.Emit.{Emit}
use Rattle.pb_buses.specs.declared.Emit.TheVariants as emits
use Rattle.pb_words.specs.declared.Decimal9.{Decimal9}
use Rattle.pb_pcap.specs.declared.entries.TheConstants as names
use Rattle.pb_pcap.specs.declared.fields.Choice.{Choice}
use Rattle.pb_pcap.specs.declared.fields.Choice.TheVariants as choices
use Rattle.pb_pcap.specs.declared.fields.Field.{Field}
use Rattle.pb_pcap.specs.Fields.{units_of}
use Rattle.pb_pcap.specs.Pcap.{Capture, opening, rules, armed}

-- enabled, with this GATE, this TRIG and this position at the first entry
abbrev pub seen : Bool → Bool → ℤ → Inputs
seen gate trig position =
    record {
      bits = true ∷ gate ∷ trig ∷ false ∷ false ∷ [];
      positions = replicate 3 (pos 0);
      words = replicate 4 0;
      bus = position ∷ replicate 31 (pos 0);
    }

abbrev pub outside : ℤ → Inputs
outside position = seen false false position

abbrev pub sample : ℤ → Inputs
sample position = seen true false position

abbrev pub trigger : ℤ → Inputs
trigger position = seen false true position

abbrev pub sample_and_trigger : ℤ → Inputs
sample_and_trigger position = seen true true position

-- the PCAP after these inputs, one a tick
abbrev pub after_all : List Inputs → Capture → Capture
after_all [] capture = capture
after_all (inputs ∷ others) capture = after_all others (rules.next capture inputs 0)

-- what a PCAP that was armed with this room emits at the tick after these
abbrev pub emits_after : ℕ → List Inputs → Inputs → Emit
emits_after room ticks last = rules.emitted (after_all ticks (armed opening room)) last 0

-- a record of the first entry, the other positions being 0
abbrev pub row : ℤ → ℤ → ℤ → ℤ → ℕ → ℕ → ℕ → ℕ → Record
row value least greatest sum ts_start ts_end ts_trig gate_duration =
    record {
      value = value ∷ replicate 31 (pos 0);
      least = least ∷ replicate 31 (pos 0);
      greatest = greatest ∷ replicate 31 (pos 0);
      sum = sum ∷ replicate 31 (pos 0);
      ts_start = ts_start;
      ts_end = ts_end;
      ts_trig = ts_trig;
      gate_duration = gate_duration;
      words = replicate 4 0;
    }

abbrev pub recorded : ℤ → ℤ → ℤ → ℤ → ℕ → ℕ → ℕ → ℕ → Emit
recorded value least greatest sum ts_start ts_end ts_trig gate_duration =
    emits.Record (row value least greatest sum ts_start ts_end ts_trig gate_duration)

abbrev pub minus_three : ℤ
minus_three = negsuc 2

-- a run begins; then its gate opens, closes and opens again
abbrev pub twice_open : List Inputs
twice_open = outside (pos 0) ∷ sample (pos 5) ∷ outside (pos 100) ∷ sample minus_three ∷ []

-- a field without units
abbrev pub field : ℕ → Choice → Field
field entry choice =
    let one : Decimal9 = record { billionths = pos 1000000000 } in
    let none : Decimal9 = record { billionths = pos 0 } in
    record { entry = entry; choice = choice; scale = one; offset = none; units = units_of [] }

-- of the first position all that is kept, of the second its value, and the number of samples
abbrev pub scan : List Field
scan = field 0 choices.MinMaxSum ∷ field 1 choices.Value ∷ field names.GATE_DURATION choices.Value ∷ []

-- so many fields from this entry on
abbrev pub fields_from : ℕ → ℕ → Choice → List Field
fields_from entry zero choice = []
fields_from entry (suc n) choice = field entry choice ∷ fields_from (entry + 1) n choice

-- all that there is
abbrev pub whole : List Field
whole = fields_from 0 12 choices.MinMaxSum ++ fields_from 32 8 choices.Value
