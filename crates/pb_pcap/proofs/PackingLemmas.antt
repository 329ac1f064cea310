-- A record's bytes, field by field.
use Rattle.std.proofs.Common.{◌≡◌, ℕ, suc, ◌+◌, ◌<◌, ◌≤◌, List, [], ◌∷◌, ◌++◌, length, drop, get_or, refl, ap, sym, ◌∙◌, arith, append_assoc, append-nil, length-append, Bool, true, false, nat_lt, ◌-◌, slice_index, if◌then◌else◌}
use Rattle.std.proofs.Math.Seq.{drop-cons}
use Rattle.pb_buses.specs.declared.Record.{Record}
use Rattle.byteorder.specs.Endian.{little_bytes}
use Rattle.pb_pcap.specs.declared.fields.Choice.{Choice}
use Rattle.pb_pcap.specs.declared.fields.Choice.TheVariants as choices
use Rattle.pb_pcap.specs.declared.fields.Field.{Field}
use Rattle.pb_pcap.specs.Fields.{IsNamed, IsLayout, choice_size, field_size, size_of}
use Rattle.pb_pcap.specs.Records.{int32, int64, stamp, position_bytes, field_bytes, record_bytes, records_bytes}
use Rattle.pb_pcap.proofs.FieldLemmas.{field_at}

pub next_field : (fields : List Field) (i : ℕ) (other : Field) → i < length fields → drop i fields ≡ get_or fields i other ∷ drop (i + 1) fields
next_field fields i other below =
    let e : i + 1 ≡ suc i = omega arith in
    rw e (drop-cons fields i other below)

pub named_at :
    (fields : List Field) (i : ℕ) (other : Field) → IsLayout fields → i < length fields → IsNamed (get_or fields i other).entry
named_at fields i other are below = (field_at 0 fields i other are below).named

-- one more field was packed
pub packed_more :
    (fields : List Field) (i : ℕ) (other : Field) (row : Record) (items new all : List ℕ) → i < length fields →
    new ≡ items ++ field_bytes (get_or fields i other) row → items ++ record_bytes (drop i fields) row ≡ all →
    new ++ record_bytes (drop (i + 1) fields) row ≡ all
packed_more fields i other row items new all below added before =
    let cut = next_field fields i other below in
    rw added
    (append_assoc items (field_bytes (get_or fields i other) row) (record_bytes (drop (i + 1) fields) row)
    ∙ sym (ap (λ rest. items ++ record_bytes rest row) cut) ∙ before)

pub sized_more :
    (fields : List Field) (i : ℕ) (other : Field) → i < length fields →
    size_of (drop i fields) ≡ field_size (get_or fields i other) + size_of (drop (i + 1) fields)
sized_more fields i other below = ap size_of (next_field fields i other below)

-- there is room for the next
pub room_for :
    (fields : List Field) (i : ℕ) (other : Field) (used all capacity : ℕ) → i < length fields →
    used + size_of (drop i fields) ≡ all → all ≤ capacity → used + field_size (get_or fields i other) ≤ capacity
room_for fields i other used all capacity below whole fits =
    let cut = sized_more fields i other below in
    omega (arith, cut, whole, fits)

-- How many bytes there are.

position_length : (choice : Choice) (entry : ℕ) (row : Record) → length (position_bytes choice entry row) ≡ choice_size choice
unfolding int32 int64
position_length choices.No entry row = refl
position_length choices.Value entry row = refl
position_length choices.Min entry row = refl
position_length choices.Max entry row = refl
position_length choices.Sum entry row = refl
position_length choices.MinMax entry row = refl
position_length choices.MinMaxSum entry row = refl

length_by :
    (is_position is_stamp : Bool) (choice : Choice) (entry : ℕ) (row : Record) →
    length
    (if is_position then position_bytes choice entry row
    else (if is_stamp then little_bytes 8 (stamp entry row) else little_bytes 4 (slice_index row.words (entry - 36))))
    ≡ (if is_position then choice_size choice else (if is_stamp then 8 else 4))
length_by true is_stamp choice entry row = position_length choice entry row
length_by false true choice entry row = refl
length_by false false choice entry row = refl

pub record_length : (fields : List Field) (row : Record) → length (record_bytes fields row) ≡ size_of fields
record_length [] row = refl
record_length (field ∷ fields) row =
    let first : length (field_bytes field row) ≡ field_size field =
    length_by (nat_lt field.entry 32) (nat_lt field.entry 36) field.choice field.entry row in
    let rest : length (record_bytes fields row) ≡ size_of fields = record_length fields row in
    length-append (field_bytes field row) (record_bytes fields row) ∙ omega (arith, first, rest)

-- one more record
pub records_more :
    (fields : List Field) (rows : List Record) (row : Record) →
    records_bytes fields (rows ++ row ∷ []) ≡ records_bytes fields rows ++ record_bytes fields row
records_more fields [] row = append-nil (record_bytes fields row)
records_more fields (first ∷ rows) row =
    ap (λ rest. record_bytes fields first ++ rest) (records_more fields rows row)
    ∙ sym (append_assoc (record_bytes fields first) (records_bytes fields rows) (record_bytes fields row))
