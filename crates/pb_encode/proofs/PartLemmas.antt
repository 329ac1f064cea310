-- What is added for each of a list, and the parts into which bytes are cut.
use Rattle.std.proofs.Common.{◌≡◌, ◌≢◌, ℕ, suc, ◌+◌, ◌*◌, ◌/◌, ◌%◌, ◌<◌, ◌≤◌, Bool, true, false, nat_lt, if◌then◌else◌, List, [], ◌∷◌, ◌++◌, length, get_or, drop, refl, sym, ap, ◌∙◌, arith, append_assoc, append-nil, length-drop}
use Rattle.std.specs.List.{flat_map}
use Rattle.std.specs.Int.{div_ceil}
use Rattle.std.proofs.Math.Seq.{drop-cons}
use Rattle.std.proofs.lemmas.List.{drop_all, length-take-le}
use Rattle.std.proofs.lemmas.List.FromFn.{length-map-range_with_len, get_or-map-range_with_len}
use Rattle.std.proofs.lemmas.Nat.{div-add-mod', mul-le, row_fits}
use Rattle.pb_pcap.specs.declared.fields.Choice.{Choice}
use Rattle.pb_pcap.specs.declared.fields.Choice.TheVariants as choices
use Rattle.pb_pcap.specs.declared.fields.Field.{Field}
use Rattle.pb_pcap.specs.Fields.{IsField, choice_size, field_size, size_of}
use Rattle.pb_encode.specs.Encoding.{part, parts}

pub next_of : {X : Type 0} (xs : List X) (i : ℕ) (x d : X) → i < length xs → x ≡ get_or xs i d → drop i xs ≡ x ∷ drop (i + 1) xs
next_of xs i x d below is =
    let e : i + 1 ≡ suc i = omega arith in
    (rw e (drop-cons xs i d below)) ∙ ap (λ y. y ∷ drop (i + 1) xs) (sym is)

-- one more was added
pub added :
    {X : Type 0} (f : X → List ℕ) (xs : List X) (i : ℕ) (x d : X) (text new all : List ℕ) → i < length xs →
    x ≡ get_or xs i d → new ≡ text ++ f x → text ++ flat_map f (drop i xs) ≡ all → new ++ flat_map f (drop (i + 1) xs) ≡ all
added f xs i x d text new all below is more before =
    ap (λ t. t ++ flat_map f (drop (i + 1) xs)) more
    ∙ (append_assoc text (f x) (flat_map f (drop (i + 1) xs))
    ∙ (ap (λ rest. text ++ flat_map f rest) (sym (next_of xs i x d below is)) ∙ before))

-- all were added
pub all_added :
    {X : Type 0} (f : X → List ℕ) (xs : List X) (i : ℕ) (text all : List ℕ) → length xs ≤ i →
    text ++ flat_map f (drop i xs) ≡ all → text ≡ all
all_added f xs i text all beyond before =
    sym (ap (λ rest. text ++ flat_map f rest) (drop_all i xs beyond) ∙ append-nil text) ∙ before

-- Parts.

pub length_parts : (size : ℕ) (bytes : List ℕ) → length (parts size bytes) ≡ div_ceil (length bytes) size
length_parts size bytes = length-map-range_with_len (part size bytes) 0 (div_ceil (length bytes) size)

pub part_at : (size : ℕ) (bytes : List ℕ) (i : ℕ) → i < div_ceil (length bytes) size → part size bytes i ≡ get_or (parts size bytes) i []
part_at size bytes i below =
    sym (get_or-map-range_with_len (part size bytes) 0 (div_ceil (length bytes) size) i i [] below (omega arith))

-- a part begins within the bytes
pub begins : (size len i : ℕ) → i < div_ceil len size → i * size ≤ len
begins size len i below =
    let whole : len / size * size + len % size ≡ len = div-add-mod' len size in
    let row : i ≤ len / size = omega (arith, below) in
    let fits : i * size ≤ len / size * size = mul-le i size (len / size) size row (omega arith) in
    omega (arith, whole, fits)

-- and is whole where all are
pub is_whole : (size len i : ℕ) → len % size ≡ 0 → i < div_ceil len size → i * size + size ≤ len
is_whole size len i none below =
    let whole : len / size * size + len % size ≡ len = div-add-mod' len size in
    let row : i < len / size = omega (arith, below, none) in
    let fits : i * size + size ≤ len / size * size = row_fits i size (len / size) size row (omega arith) in
    omega (arith, whole, fits)

pub part_length : (size : ℕ) (bytes : List ℕ) (i : ℕ) → i * size + size ≤ length bytes → length (part size bytes i) ≡ size
part_length size bytes i fits =
    length-take-le size (drop (i * size) bytes) (omega (arith, fits, length-drop (i * size) bytes))

-- A layout with a field has a record with a byte.

pub some_field : (fields : List Field) → fields ≢ [] → 0 < length fields
some_field [] h = absurd (h refl)
some_field (field ∷ fields) h = omega arith

some_by :
    (is_position is_stamp : Bool) (choice : Choice) → choice ≢ choices.No →
    0 < (if is_position then choice_size choice else (if is_stamp then 8 else 4))
some_by true is_stamp choices.No h = absurd (h refl)
some_by true is_stamp choices.Value h = omega arith
some_by true is_stamp choices.Min h = omega arith
some_by true is_stamp choices.Max h = omega arith
some_by true is_stamp choices.Sum h = omega arith
some_by true is_stamp choices.MinMax h = omega arith
some_by true is_stamp choices.MinMaxSum h = omega arith
some_by false true choice h = omega arith
some_by false false choice h = omega arith

pub some_size : (fields : List Field) (first : Field) → 0 < length fields → first ≡ get_or fields 0 first → IsField first → 0 < size_of fields
some_size [] first some is field = absurd (omega arith)
some_size (other ∷ fields) first some is field =
    let one : 0 < field_size first = some_by (nat_lt first.entry 32) (nat_lt first.entry 36) first.choice field.suits.0 in
    let same : field_size first ≡ field_size other = ap field_size is in
    omega (arith, one, same)
