-- The fields of a layout: how many there can be, how many bytes they take, and a field more.
use Rattle.std.proofs.Common.{◌≡◌, ℕ, zero, suc, ◌+◌, ◌-◌, ◌*◌, ◌<◌, ◌≤◌, nat_lt, List, [], ◌∷◌, ◌++◌, length, take, set, get_or, All, min, inl, inr, if◌then◌else◌, ◌∙◌, arith}
use Rattle.std.proofs.lemmas.Bool.{lt-ltb, le-ltb, cases_lt}
use Rattle.std.proofs.lemmas.List.{length-take, length-set, take_more_set}
use Rattle.pb_words.specs.declared.Decimal9.{Decimal9}
use Rattle.pb_pcap.specs.declared.fields.Choice.{Choice}
use Rattle.pb_pcap.specs.declared.fields.Units.{Units}
use Rattle.pb_pcap.specs.declared.fields.Choice.TheVariants as choices
use Rattle.pb_pcap.specs.declared.fields.Field.{Field}
use Rattle.pb_pcap.specs.Fields.{IsNamed, IsField, AreFieldsFrom, IsLayout, choice_size, field_size, size_of}

-- the first entry that may still come
pub free_from : ℕ → List Field → ℕ
free_from low [] = low
free_from low (field ∷ fields) = free_from (field.entry + 1) fields

-- so many bytes can a record have of the entries below this one
pub bytes_below : ℕ → ℕ
bytes_below entry = 16 * min entry 12 + (8 * min (entry - 32) 4 + 4 * min (entry - 36) 4)

-- and so many fields a layout
pub fields_below : ℕ → ℕ
fields_below entry = min entry 12 + min (entry - 32) 8

choice_is_small : (choice : Choice) → choice_size choice ≤ 16
choice_is_small choices.No = omega arith
choice_is_small choices.Value = omega arith
choice_is_small choices.Min = omega arith
choice_is_small choices.Max = omega arith
choice_is_small choices.Sum = omega arith
choice_is_small choices.MinMax = omega arith
choice_is_small choices.MinMaxSum = omega arith

one_takes :
    (entry low bytes : ℕ) → bytes ≤ 16 → low ≤ entry → IsNamed entry →
    (if nat_lt entry 32 then bytes else (if nat_lt entry 36 then 8 else 4)) + bytes_below low ≤ bytes_below (entry + 1)
unfolding bytes_below
one_takes entry low bytes small above (inl position) = rw (lt-ltb entry 32 (omega arith)) (omega arith)
one_takes entry low bytes small above (inr extra) =
    elim (cases_lt entry 36) [
      | inl stamp ↦ rw (le-ltb entry 32 extra.0, lt-ltb entry 36 stamp) (omega (arith, extra.0, extra.1))
      | inr word ↦ rw (le-ltb entry 32 extra.0, le-ltb entry 36 word) (omega (arith, extra.0, extra.1))
    ]

all_take :
    (low : ℕ) (fields : List Field) → AreFieldsFrom low fields →
    size_of fields + bytes_below low ≤ bytes_below (free_from low fields)
unfolding free_from
all_take low [] are = omega arith
all_take low (field ∷ fields) are =
    let rest = all_take (field.entry + 1) fields are.2 in
    let first = one_takes field.entry low (choice_size field.choice) (choice_is_small field.choice) are.0 are.1.named in
    omega (arith, rest, first)

bytes_limit : (entry : ℕ) → bytes_below entry ≤ 240
unfolding bytes_below
bytes_limit entry = omega arith

-- the largest record has 240 bytes
pub size_limit : (fields : List Field) → IsLayout fields → size_of fields ≤ 240
size_limit fields are =
    let all = all_take 0 fields are in
    let limit = bytes_limit (free_from 0 fields) in
    omega (arith, all, limit)

one_more_place : (entry low : ℕ) → low ≤ entry → IsNamed entry → 1 + fields_below low ≤ fields_below (entry + 1)
unfolding fields_below
one_more_place entry low above (inl position) = omega arith
one_more_place entry low above (inr extra) = omega (arith, extra.0, extra.1)

all_places :
    (low : ℕ) (fields : List Field) → AreFieldsFrom low fields →
    length fields + fields_below low ≤ fields_below (free_from low fields)
unfolding free_from
all_places low [] are = omega arith
all_places low (field ∷ fields) are =
    let rest = all_places (field.entry + 1) fields are.2 in
    let first = one_more_place field.entry low are.0 are.1.named in
    omega (arith, rest, first)

place_left : (free entry : ℕ) → free ≤ entry → IsNamed entry → fields_below free < 20
unfolding fields_below
place_left free entry below (inl position) = omega arith
place_left free entry below (inr extra) = omega (arith, extra.0, extra.1)

-- an entry above all others may come next
pub free_below :
    (entry low : ℕ) (fields : List Field) → low ≤ entry → All (λ field. field.entry < entry) fields →
    free_from low fields ≤ entry
unfolding free_from
free_below entry low [] first above = first
free_below entry low (field ∷ fields) first above =
    let this : field.entry < entry = above 0 field (omega arith) in
    free_below entry (field.entry + 1) fields (omega arith) (λ k d lt. above (suc k) d (omega arith))

-- then there is a place for it
pub has_place :
    (entry : ℕ) (fields : List Field) → IsLayout fields → All (λ field. field.entry < entry) fields → IsNamed entry →
    length fields < 20
has_place entry fields are above named =
    let all = all_places 0 fields are in
    let left = place_left (free_from 0 fields) entry (free_below entry 0 fields (omega arith) above) named in
    omega (arith, all, left)

-- one more field
fields_more :
    (low : ℕ) (fields : List Field) (field : Field) → AreFieldsFrom low fields → free_from low fields ≤ field.entry →
    IsField field → AreFieldsFrom low (fields ++ field ∷ [])
unfolding free_from
fields_more low [] field are free is = (free, is, tt)
fields_more low (first ∷ fields) field are free is =
    (are.0, are.1, fields_more (first.entry + 1) fields field are.2 free is)

size_more : (fields : List Field) (field : Field) → size_of (fields ++ field ∷ []) ≡ size_of fields + field_size field
size_more [] field = omega arith
size_more (first ∷ fields) field = let rest = size_more fields field in omega (arith, rest)

-- a field of these parts
abbrev pub made : ℕ → Choice → Decimal9 → Decimal9 → Units → Field
made entry choice scale offset units =
    record { entry = entry; choice = choice; scale = scale; offset = offset; units = units }

-- a field put behind the others
pub added_field :
    (fields : List Field) (len size more : ℕ) (field : Field) → length fields ≡ 20 → len ≤ 20 →
    size ≡ size_of (take len fields) → IsLayout (take len fields) → All (λ other. other.entry < field.entry) (take len fields) →
    IsField field → more ≡ field_size field →
    (length (set fields len field) ≡ 20) × (len + 1 ≤ 20) × (size + more ≡ size_of (take (len + 1) (set fields len field)))
    × IsLayout (take (len + 1) (set fields len field))
added_field fields len size more field long short sized are above is more_is =
    let place : length (take len fields) < 20 = has_place field.entry (take len fields) are above is.named in
    let counted : length (take len fields) ≡ min len (length fields) = length-take len fields in
    let next : len < length fields = omega arith in
    let taken : take (len + 1) (set fields len field) ≡ take len fields ++ field ∷ [] = take_more_set fields len field next in
    let sum : size_of (take len fields ++ field ∷ []) ≡ size_of (take len fields) + field_size field = size_more (take len fields) field in (
      length-set fields len field ∙ long,
      omega arith,
      rw taken (omega (arith, sum, sized, more_is)),
      rw taken (fields_more 0 (take len fields) field are (free_below field.entry 0 (take len fields) (omega arith) above) is),
    )

-- a layout that has a place left
pub has_room :
    (fields : List Field) (len entry : ℕ) → length fields ≡ 20 → len ≤ 20 → IsLayout (take len fields) →
    All (λ other. other.entry < entry) (take len fields) → IsNamed entry → len < 20
has_room fields len entry long short are above named =
    let place : length (take len fields) < 20 = has_place entry (take len fields) are above named in
    let counted : length (take len fields) ≡ min len (length fields) = length-take len fields in
    omega arith

-- a field of a layout
pub field_at :
    (low : ℕ) (fields : List Field) (i : ℕ) (other : Field) → AreFieldsFrom low fields → i < length fields →
    IsField (get_or fields i other)
field_at low [] i other are below = absurd (omega arith)
field_at low (field ∷ fields) zero other are below = are.1
field_at low (field ∷ fields) (suc i) other are below = field_at (field.entry + 1) fields i other are.2 (omega arith)
