-- The bytes of some records among those of many.
use Rattle.std.proofs.Common.{◌≡◌, ◌≢◌, refl, sym, ap, ◌∙◌, ℕ, zero, suc, ◌+◌, ◌-◌, ◌*◌, ◌/◌, ◌%◌, ◌<◌, min, List, [], ◌∷◌, ◌++◌, length, take, drop, arith}
use Rattle.std.proofs.lemmas.List.{drop_at, drop-drop, drop_all, take_all, take_min, length-drop, length-take}
use Rattle.std.proofs.Math.Nat.{mul-mod_left}
use Rattle.pb_buses.specs.declared.Record.{Record}
use Rattle.pb_encode.specs.Encoding as encoding
use Rattle.pb_pcap.specs.declared.fields.Field.{Field}
use Rattle.pb_pcap.specs.Fields.{size_of}
use Rattle.pb_pcap.specs.Records.{record_bytes, records_bytes}
use Rattle.pb_pcap.proofs.PackingLemmas.{record_length}
use Rattle.pb_acquire.specs.declared.acquiring.TheConstants as limits
use Rattle.pb_acquire.specs.declared.readers.Reader.{Reader}
use Rattle.pb_acquire.specs.declared.readers.Taken.TheVariants as takes
use Rattle.pb_acquire.specs.Readers.{after_records}
use Rattle.pb_acquire.specs.Acquisitions.{Acquisition}
use Rattle.pb_acquire.specs.Taking.{next_records, records_taken}

drop_front : (p q : List ℕ) (m n : ℕ) → length p ≡ n → drop (n + m) (p ++ q) ≡ drop m q
drop_front p q m n e = sym (drop-drop m n (p ++ q)) ∙ ap (drop m) (drop_at p q n e)

take_front : (p q : List ℕ) (m n : ℕ) → length p ≡ n → take (n + m) (p ++ q) ≡ p ++ take m q
take_front [] q m n e = let same : n + m ≡ m = omega (arith, e) in rw same refl
take_front (x ∷ p) q m zero e = absurd (omega (arith, e))
take_front (x ∷ p) q m (suc n) e =
    let next : suc n + m ≡ suc (n + m) = omega arith in
    rw next (ap (λ xs. x ∷ xs) (take_front p q m n (omega (arith, e))))

bytes_dropped : (fields : List Field) (rows : List Record) (k : ℕ) → drop (k * size_of fields) (records_bytes fields rows) ≡ records_bytes fields (drop k rows)
bytes_dropped fields [] zero = drop_all (0 * size_of fields) [] (omega arith)
bytes_dropped fields [] (suc k) = drop_all (suc k * size_of fields) [] (omega arith)
bytes_dropped fields (row ∷ rows) zero = let none : 0 * size_of fields ≡ 0 = omega arith in rw none refl
bytes_dropped fields (row ∷ rows) (suc k) =
    let split : suc k * size_of fields ≡ size_of fields + k * size_of fields = grind arith in
    rw split
    (drop_front (record_bytes fields row) (records_bytes fields rows) (k * size_of fields) (size_of fields) (record_length fields row)
    ∙ bytes_dropped fields rows k)

bytes_taken : (fields : List Field) (rows : List Record) (n : ℕ) → take (n * size_of fields) (records_bytes fields rows) ≡ records_bytes fields (take n rows)
bytes_taken fields rows zero = let none : 0 * size_of fields ≡ 0 = omega arith in rw none refl
bytes_taken fields [] (suc n) = take_all (suc n * size_of fields) [] (omega arith)
bytes_taken fields (row ∷ rows) (suc n) =
    let split : suc n * size_of fields ≡ size_of fields + n * size_of fields = grind arith in
    rw split
    (take_front (record_bytes fields row) (records_bytes fields rows) (n * size_of fields) (size_of fields) (record_length fields row)
    ∙ ap (λ bytes. record_bytes fields row ++ bytes) (bytes_taken fields rows n))

-- so many records from one on
pub bytes_cut :
    (fields : List Field) (rows : List Record) (first count : ℕ) →
    take (count * size_of fields) (drop (first * size_of fields) (records_bytes fields rows)) ≡ records_bytes fields (take count (drop first rows))
bytes_cut fields rows first count =
    ap (take (count * size_of fields)) (bytes_dropped fields rows first) ∙ bytes_taken fields (drop first rows) count

-- no more than there are
pub next_cut :
    (rows : List Record) (first most count : ℕ) → count ≡ min (length rows - first) most →
    (take count (drop first rows) ≡ take most (drop first rows)) × (length (take most (drop first rows)) ≡ count)
next_cut rows first most count e =
    let so_many : min most (length (drop first rows)) ≡ count = grind (arith, length-drop first rows, e) in
    (ap (λ n. take n (drop first rows)) (sym so_many) ∙ take_min most (drop first rows), length-take most (drop first rows) ∙ so_many)

pub some_fields : (fields : List Field) → 0 < size_of fields → fields ≢ []
some_fields fields some none = let never : size_of fields ≡ 0 = ap size_of none in omega (arith, some, never)

pub whole_parts : (length size count : ℕ) → length ≡ count * size → length % size ≡ 0
whole_parts length size count e = rw e (mul-mod_left count size)

-- the next piece of records
pub piece_is :
    (reader after : Reader) (own : Acquisition) (layout : List Field) (bytes raw text : List ℕ) (many count : ℕ) →
    layout ≡ own.layout → bytes ≡ records_bytes own.layout own.records → many ≡ length own.records →
    count ≡ min (many - reader.given) (limits.PIECE_LIMIT / size_of layout) →
    raw ≡ take (count * size_of layout) (drop (reader.given * size_of layout) bytes) →
    text ≡ encoding.piece reader.options layout raw → after ≡ after_records reader count →
    takes.Bytes text after ≡ records_taken reader own
piece_is reader after own layout bytes raw text many count by_layout as_bytes so_many counted cut told then =
    let count_is : count ≡ min (length own.records - reader.given) (limits.PIECE_LIMIT / size_of own.layout) =
    counted ∙ rw (so_many, by_layout) refl in
    let next = next_cut own.records reader.given (limits.PIECE_LIMIT / size_of own.layout) count count_is in
    let raw_is : raw ≡ records_bytes own.layout (next_records reader own) =
    cut ∙ rw (by_layout, as_bytes) (bytes_cut own.layout own.records reader.given count ∙ ap (records_bytes own.layout) next.0) in
    let text_is : text ≡ encoding.piece reader.options own.layout (records_bytes own.layout (next_records reader own)) =
    told ∙ rw (by_layout, raw_is) refl in
    let after_is : after ≡ after_records reader (length (next_records reader own)) = then ∙ ap (after_records reader) (sym next.1) in
    rw (text_is, after_is) refl
