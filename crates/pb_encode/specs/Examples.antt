-- The layouts and options of the worked examples.
use Rattle.std.specs.Prelude.{ℕ, Bool, true, false, pos, ℤ, List, [], ◌∷◌, codes}
use Rattle.pb_words.specs.declared.Decimal9.{Decimal9}
use Rattle.pb_pcap.specs.declared.entries.TheConstants as names
use Rattle.pb_pcap.specs.declared.fields.Choice.{Choice}
use Rattle.pb_pcap.specs.declared.fields.Choice.TheVariants as choices
use Rattle.pb_pcap.specs.declared.fields.Field.{Field}
use Rattle.pb_pcap.specs.Fields.{units_of}
use Rattle.pb_encode.specs.declared.options.Form.{Form}
use Rattle.pb_encode.specs.declared.options.Options.{Options}

-- a field of an entry, with its scale and its offset in billionths
abbrev pub field : ℕ → Choice → ℤ → ℤ → List ℕ → Field
field entry choice scale offset units =
    let by : Decimal9 = record { billionths = scale } in
    let from : Decimal9 = record { billionths = offset } in
    record { entry = entry; choice = choice; scale = by; offset = from; units = units_of units }

-- COUNTER1.OUT as it is
abbrev pub counter : Field
counter = field 4 choices.Value (pos 1000000000) (pos 0) []

-- INENC1.VAL in millimetres, a count being a micrometre
abbrev pub encoder : Field
encoder = field 0 choices.MinMaxSum (pos 1000000) (pos 0) (codes "mm")

-- the same from half a millimetre on
abbrev pub shifted : Field
shifted = field 0 choices.MinMaxSum (pos 1000000) (pos 500000000) (codes "mm")

-- the number of samples
abbrev pub samples : Field
samples = field names.GATE_DURATION choices.Value (pos 0) (pos 0) []

-- with a header, status, and more than one acquisition
abbrev pub options : Form → Bool → Options
options form is_scaled = record { form = form; scaled = is_scaled; header = true; status = true; one_shot = false }

-- three records of the counter
abbrev pub three : List ℕ
three = 0 ∷ 0 ∷ 0 ∷ 0 ∷ 1 ∷ 0 ∷ 0 ∷ 0 ∷ 2 ∷ 0 ∷ 0 ∷ 0 ∷ []

-- the last record of a scan: the encoder went from 6.99 to 7 mm, 1,000 samples add up to 6994.52 mm, and the counter is at 699
abbrev pub last : List ℕ
last = 78 ∷ 27 ∷ 0 ∷ 0 ∷ 88 ∷ 27 ∷ 0 ∷ 0 ∷ 88 ∷ 186 ∷ 106 ∷ 0 ∷ 0 ∷ 0 ∷ 0 ∷ 0 ∷ 187 ∷ 2 ∷ 0 ∷ 0 ∷ []

-- 2 ^ 40 samples at the least value: their sum is 0 in 64 bits
abbrev pub long : List ℕ
long = 0 ∷ 0 ∷ 0 ∷ 128 ∷ 0 ∷ 0 ∷ 0 ∷ 128 ∷ 0 ∷ 0 ∷ 0 ∷ 0 ∷ 0 ∷ 0 ∷ 0 ∷ 0 ∷ 0 ∷ 0 ∷ 0 ∷ 0 ∷ 0 ∷ 1 ∷ 0 ∷ 0 ∷ []
