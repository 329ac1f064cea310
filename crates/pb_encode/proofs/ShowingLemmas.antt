-- The line of a record's bytes shows the record's numbers.
use Rattle.std.proofs.Common.{◌≡◌, ◌≢◌, ℕ, zero, suc, ◌+◌, ◌-◌, ◌*◌, ◌/◌, ◌%◌, ◌^◌, ◌<◌, Fits, Bool, true, false, nat_lt, ℤ, FitsSigned, List, [], ◌∷◌, ◌++◌, length, take, drop, map, All, codes, slice_index, refl, sym, ap, ◌∙◌, arith, append_assoc, append-nil, length-append, inl, inr}
use Rattle.std.specs.List.{flat_map, range_with_len}
use Rattle.std.specs.Int.{w32, w64, cast_signed, cast_unsigned, div_ceil}
use Rattle.std.proofs.lemmas.Bool.{lt-ltb, le-ltb, cases_lt}
use Rattle.std.proofs.lemmas.Int.{to_z-of_z}
use mir.Facts.{Fits-of_z}
use Rattle.std.proofs.lemmas.List.{drop_at, drop-drop, take_at}
use Rattle.std.proofs.lemmas.Nat.{div-mul-add, mod-mul-add}
use Rattle.byteorder.specs.Endian.{little_number}
use Rattle.byteorder.specs.Numbers.{little_number-reads_back}
use Rattle.pb_buses.specs.declared.Record.{Record}
use Rattle.pb_pcap.specs.declared.fields.Choice.{Choice}
use Rattle.pb_pcap.specs.declared.fields.Choice.TheVariants as choices
use Rattle.pb_pcap.specs.declared.fields.Field.{Field}
use Rattle.pb_pcap.specs.Fields.{IsField, AreFieldsFrom, IsLayout, field_size, size_of}
use Rattle.pb_pcap.specs.Records.{int32, int64, stamp, position_bytes, extra_bytes, field_bytes, record_bytes, records_bytes}
use Rattle.pb_pcap.proofs.PackingLemmas.{record_length}
use Rattle.pb_encode.specs.declared.quantities.Quantity.{Quantity}
use Rattle.pb_encode.specs.declared.quantities.Quantity.TheVariants as quantities
use Rattle.pb_encode.specs.Encoding.{quantities_of, position_size, position_in, numbers_text, fields_text, record_line, count_in, part, ascii}
use Rattle.pb_encode.specs.Showing.{IsInRange, position_of, extra_of, shown_number, shown_field, shown_record}
use Rattle.pb_encode.proofs.PartLemmas.{some_size}

-- A number's bytes are read back, and what follows them is left.

fits32 : (z : ℤ) → FitsSigned w32 z → cast_unsigned w32 z < 256 ^ 4
fits32 z f = let g : Fits w32 (cast_unsigned w32 z) = Fits-of_z f in g.fits

fits64 : (z : ℤ) → FitsSigned w64 z → cast_unsigned w64 z < 256 ^ 8
fits64 z f = let g : Fits w64 (cast_unsigned w64 z) = Fits-of_z f in g.fits

abbrev bytes_for : Quantity → ℤ → List ℕ
bytes_for quantities.Sum z = int64 z
bytes_for _ z = int32 z

abbrev Suits : Quantity → ℤ → Type 0
Suits quantities.Sum z = FitsSigned w64 z
Suits _ z = FitsSigned w32 z

read32 : (z : ℤ) (rest : List ℕ) → FitsSigned w32 z → cast_signed w32 (little_number 4 (int32 z ++ rest)) ≡ z
unfolding int32
read32 z rest fits =
    ap (cast_signed w32) (little_number-reads_back 4 (cast_unsigned w32 z) rest (fits32 z fits)) ∙ to_z-of_z w32 z fits

read64 : (z : ℤ) (rest : List ℕ) → FitsSigned w64 z → cast_signed w64 (little_number 8 (int64 z ++ rest)) ≡ z
unfolding int64
read64 z rest fits =
    ap (cast_signed w64) (little_number-reads_back 8 (cast_unsigned w64 z) rest (fits64 z fits)) ∙ to_z-of_z w64 z fits

skip32 : (z : ℤ) (rest : List ℕ) → drop 4 (int32 z ++ rest) ≡ rest
unfolding int32
skip32 z rest = refl

skip64 : (z : ℤ) (rest : List ℕ) → drop 8 (int64 z ++ rest) ≡ rest
unfolding int64
skip64 z rest = refl

read_position : (q : Quantity) (z : ℤ) (rest : List ℕ) → Suits q z → position_in q (bytes_for q z ++ rest) ≡ z
read_position quantities.Value z rest fits = read32 z rest fits
read_position quantities.Min z rest fits = read32 z rest fits
read_position quantities.Max z rest fits = read32 z rest fits
read_position quantities.Sum z rest fits = read64 z rest fits

skip_position : (q : Quantity) (z : ℤ) (rest : List ℕ) → drop (position_size q) (bytes_for q z ++ rest) ≡ rest
skip_position quantities.Value z rest = skip32 z rest
skip_position quantities.Min z rest = skip32 z rest
skip_position quantities.Max z rest = skip32 z rest
skip_position quantities.Sum z rest = skip64 z rest

-- One number of a position, and those after it.

next_number :
    (s : Bool) (field : Field) (row : Record) (q : Quantity) (qs : List Quantity) (rest more : List ℕ) →
    nat_lt field.entry 32 ≡ true → Suits q (position_of q field.entry row) → numbers_text s field qs rest ≡ more →
    numbers_text s field (q ∷ qs) (bytes_for q (position_of q field.entry row) ++ rest) ≡ shown_number s field row q ++ more
next_number s field row q qs rest more e fits others =
    let z : ℤ = position_of q field.entry row in
    rw (e, read_position q z rest fits, skip_position q z rest, others) refl

shown_position :
    (s : Bool) (field : Field) (row : Record) (choice : Choice) (rest : List ℕ) → nat_lt field.entry 32 ≡ true → IsInRange row →
    numbers_text s field (quantities_of choice) (position_bytes choice field.entry row ++ rest)
    ≡ flat_map (shown_number s field row) (quantities_of choice)
unfolding int32 int64
shown_position s field row choices.No rest e is = refl
shown_position s field row choices.Value rest e is = next_number s field row quantities.Value [] rest [] e (is.value field.entry) refl
shown_position s field row choices.Min rest e is = next_number s field row quantities.Min [] rest [] e (is.least field.entry) refl
shown_position s field row choices.Max rest e is = next_number s field row quantities.Max [] rest [] e (is.greatest field.entry) refl
shown_position s field row choices.Sum rest e is = next_number s field row quantities.Sum [] rest [] e (is.sum field.entry) refl
shown_position s field row choices.MinMax rest e is =
    let low : List ℕ = int32 (position_of quantities.Min field.entry row) in
    let high : List ℕ = int32 (position_of quantities.Max field.entry row) in
    ap (numbers_text s field (quantities_of choices.MinMax)) (append_assoc low high rest)
    ∙ next_number s field row quantities.Min (quantities.Max ∷ []) (high ++ rest) _ e (is.least field.entry)
    (next_number s field row quantities.Max [] rest [] e (is.greatest field.entry) refl)
shown_position s field row choices.MinMaxSum rest e is =
    let low : List ℕ = int32 (position_of quantities.Min field.entry row) in
    let high : List ℕ = int32 (position_of quantities.Max field.entry row) in
    let sum : List ℕ = int64 (position_of quantities.Sum field.entry row) in
    ap (numbers_text s field (quantities_of choices.MinMaxSum))
    (append_assoc low (high ++ sum) rest ∙ ap (λ l. low ++ l) (append_assoc high sum rest))
    ∙ next_number s field row quantities.Min (quantities.Max ∷ quantities.Sum ∷ []) (high ++ (sum ++ rest)) _ e (is.least field.entry)
    (next_number s field row quantities.Max (quantities.Sum ∷ []) (sum ++ rest) _ e (is.greatest field.entry)
    (next_number s field row quantities.Sum [] rest [] e (is.sum field.entry) refl))

-- A time stamp, the count, or a word of bits.

stamp_fits : (entry : ℕ) (row : Record) → IsInRange row → stamp entry row < 2 ^ 64
stamp_fits entry row is = grind (arith, is.ts_start, is.ts_end, is.ts_trig, is.gate_duration)

count_read : (entry : ℕ) (row : Record) (rest : List ℕ) → IsInRange row → count_in entry (extra_bytes entry row ++ rest) ≡ extra_of entry row
count_read entry row rest is = elim (cases_lt entry 36) [
  | inl is_stamp ↦
      let fits : stamp entry row < 256 ^ 8 = stamp_fits entry row is in
      rw (lt-ltb entry 36 is_stamp) (little_number-reads_back 8 (stamp entry row) rest fits)
  | inr is_word ↦
      let fits : slice_index row.words (entry - 36) < 256 ^ 4 = is.words (entry - 36) in
      rw (le-ltb entry 36 is_word) (little_number-reads_back 4 (slice_index row.words (entry - 36)) rest fits)
]

shown_extra :
    (s : Bool) (field : Field) (row : Record) (rest : List ℕ) → nat_lt field.entry 32 ≡ false → IsInRange row →
    numbers_text s field (quantities.Value ∷ []) (extra_bytes field.entry row ++ rest)
    ≡ flat_map (shown_number s field row) (quantities.Value ∷ [])
shown_extra s field row rest e is = rw (e, count_read field.entry row rest is) refl

-- A field, and all fields.

shown :
    (s : Bool) (field : Field) (row : Record) (rest : List ℕ) → IsField field → IsInRange row →
    numbers_text s field (quantities_of field.choice) (field_bytes field row ++ rest) ≡ shown_field s row field
shown s field row rest is in_range = elim (cases_lt field.entry 32) [
  | inl position ↦
      let e : nat_lt field.entry 32 ≡ true = lt-ltb field.entry 32 position in
      let b : field_bytes field row ≡ position_bytes field.choice field.entry row = rw e refl in
      ap (λ l. numbers_text s field (quantities_of field.choice) (l ++ rest)) b
      ∙ shown_position s field row field.choice rest e in_range
  | inr extra ↦
      let e : nat_lt field.entry 32 ≡ false = le-ltb field.entry 32 extra in
      let b : field_bytes field row ≡ extra_bytes field.entry row = rw e refl in
      let v : field.choice ≡ choices.Value = is.suits.1 extra in
      ap (λ l. numbers_text s field (quantities_of field.choice) (l ++ rest)) b
      ∙ (ap (λ c. numbers_text s field (quantities_of c) (extra_bytes field.entry row ++ rest)) v
      ∙ (shown_extra s field row rest e in_range
      ∙ ap (λ c. flat_map (shown_number s field row) (quantities_of c)) (sym v)))
]

skip_field : (field : Field) (row : Record) (rest : List ℕ) → drop (field_size field) (field_bytes field row ++ rest) ≡ rest
skip_field field row rest =
    let sized : length (field_bytes field row) ≡ field_size field =
    ap length (sym (append-nil (field_bytes field row))) ∙ (record_length (field ∷ []) row ∙ omega arith) in
    drop_at (field_bytes field row) rest (field_size field) sized

fields_shown :
    (s : Bool) (low : ℕ) (fields : List Field) (row : Record) → AreFieldsFrom low fields → IsInRange row →
    fields_text s fields (record_bytes fields row) ≡ flat_map (shown_field s row) fields
fields_shown s low [] row are is = refl
fields_shown s low (field ∷ fields) row are is =
    let others : List ℕ = record_bytes fields row in
    ap (λ t. t ++ fields_text s fields (drop (field_size field) (field_bytes field row ++ others))) (shown s field row others are.1 is)
    ∙ ap (λ t. shown_field s row field ++ t)
    (ap (fields_text s fields) (skip_field field row others) ∙ fields_shown s (field.entry + 1) fields row are.2 is)

pub record_shown :
    (s : Bool) (fields : List Field) (row : Record) → IsLayout fields → IsInRange row →
    record_line s fields (record_bytes fields row) ≡ shown_record s fields row
record_shown s fields row are is = ap (λ t. t ++ codes "\n") (fields_shown s 0 fields row are is)

-- Records one after the other.

shift : {X : Type 0} (f g : ℕ → X) → ((i : ℕ) → f (i + 1) ≡ g i) → (a n : ℕ) → map f (range_with_len (a + 1) n) ≡ map g (range_with_len a n)
shift f g h a zero = refl
shift f g h a (suc n) =
    ap (λ x. x ∷ map f (range_with_len (a + 1 + 1) n)) (h a) ∙ ap (λ l. g a ∷ l) (shift f g h (a + 1) n)

first_part : (size : ℕ) (bytes rest : List ℕ) → length bytes ≡ size → part size (bytes ++ rest) 0 ≡ bytes
first_part size bytes rest sized =
    let none : 0 * size ≡ 0 = omega arith in
    ap (λ n. take size (drop n (bytes ++ rest))) none ∙ take_at bytes rest size sized

next_part : (size i : ℕ) (bytes rest : List ℕ) → length bytes ≡ size → part size (bytes ++ rest) (i + 1) ≡ part size rest i
next_part size i bytes rest sized =
    let more : (i + 1) * size ≡ size + i * size = omega arith in
    ap (λ n. take size (drop n (bytes ++ rest))) more
    ∙ (ap (take size) (sym (drop-drop (i * size) size (bytes ++ rest)))
    ∙ ap (λ l. take size (drop (i * size) l)) (drop_at bytes rest size sized))

records_cut :
    (fields : List Field) (rows : List Record) →
    map (part (size_of fields) (records_bytes fields rows)) (range_with_len 0 (length rows)) ≡ map (record_bytes fields) rows
records_cut fields [] = refl
records_cut fields (row ∷ rows) =
    let size : ℕ = size_of fields in
    let bytes : List ℕ = record_bytes fields row in
    let rest : List ℕ = records_bytes fields rows in
    let sized : length bytes ≡ size = record_length fields row in
    ap (λ first. first ∷ map (part size (bytes ++ rest)) (range_with_len 1 (length rows))) (first_part size bytes rest sized)
    ∙ ap (λ l. bytes ∷ l)
    (shift (part size (bytes ++ rest)) (part size rest) (λ i. next_part size i bytes rest sized) 0 (length rows) ∙ records_cut fields rows)

records_length : (fields : List Field) (rows : List Record) → length (records_bytes fields rows) ≡ length rows * size_of fields
records_length fields [] = omega arith
records_length fields (row ∷ rows) =
    let one = record_length fields row in
    let others = records_length fields rows in
    length-append (record_bytes fields row) (records_bytes fields rows) ∙ omega (arith, one, others)

counted : (n size : ℕ) → 0 < size → div_ceil (n * size) size ≡ n
counted n size some =
    let same : n * size + 0 ≡ n * size = omega arith in
    let whole : (n * size) / size ≡ n = ap (λ k. k / size) (sym same) ∙ div-mul-add n size 0 some in
    let none : (n * size) % size ≡ 0 = ap (λ k. k % size) (sym same) ∙ mod-mul-add n size 0 some in
    omega (arith, whole, none)

lines_shown :
    (s : Bool) (fields : List Field) (rows : List Record) → IsLayout fields → All IsInRange rows →
    flat_map (record_line s fields) (map (record_bytes fields) rows) ≡ flat_map (shown_record s fields) rows
lines_shown s fields [] are is = refl
lines_shown s fields (row ∷ rows) are is =
    ap (λ t. t ++ flat_map (record_line s fields) (map (record_bytes fields) rows)) (record_shown s fields row are (is 0 row (omega arith)))
    ∙ ap (λ t. shown_record s fields row ++ t) (lines_shown s fields rows are (λ k d lt. is (suc k) d (omega arith)))

layout_size : (fields : List Field) → IsLayout fields → fields ≢ [] → 0 < size_of fields
layout_size [] are h = absurd (h refl)
layout_size (field ∷ fields) are h = some_size (field ∷ fields) field (omega arith) refl are.1

pub records_shown :
    (s : Bool) (fields : List Field) (rows : List Record) → IsLayout fields → fields ≢ [] → All IsInRange rows →
    ascii s fields (records_bytes fields rows) ≡ flat_map (shown_record s fields) rows
records_shown s fields rows are some is =
    let size : ℕ = size_of fields in
    let bytes : List ℕ = records_bytes fields rows in
    let count : div_ceil (length bytes) size ≡ length rows =
    ap (λ n. div_ceil n size) (records_length fields rows) ∙ counted (length rows) size (layout_size fields are some) in
    ap (λ n. flat_map (record_line s fields) (map (part size bytes) (range_with_len 0 n))) count
    ∙ (ap (flat_map (record_line s fields)) (records_cut fields rows) ∙ lines_shown s fields rows are is)
