-- The line of a record, number by number and field by field.
use Rattle.std.proofs.Common.{◌≡◌, ℕ, ◌+◌, ◌<◌, ◌≤◌, Bool, true, false, nat_lt, if◌then◌else◌, List, ◌∷◌, ◌++◌, length, get_or, drop, codes, refl, sym, subst, ap, ◌∙◌, arith, append_assoc, append-nil, length-drop, inl, inr}
use Rattle.std.proofs.lemmas.Bool.{lt-ltb, le-ltb, cases_lt}
use Rattle.std.proofs.lemmas.List.{drop-drop, drop_all}
use Rattle.pb_pcap.specs.declared.fields.Choice.{Choice}
use Rattle.pb_pcap.specs.declared.fields.Choice.TheVariants as choices
use Rattle.pb_pcap.specs.declared.fields.Field.{Field}
use Rattle.pb_pcap.specs.Fields.{IsField, choice_size, field_size, size_of}
use Rattle.pb_encode.specs.declared.quantities.Quantity.{Quantity}
use Rattle.pb_encode.specs.Encoding.{quantities_of, number_size, number_text, numbers_text, fields_text}
use Rattle.pb_encode.specs.Sizes.{numbers_size}
use Rattle.pb_encode.proofs.PartLemmas.{next_of}

-- The numbers of a field have its size.

position_numbers : (entry : ℕ) (choice : Choice) → nat_lt entry 32 ≡ true → numbers_size entry (quantities_of choice) ≡ choice_size choice
position_numbers entry choices.No e = refl
position_numbers entry choices.Value e = rw e refl
position_numbers entry choices.Min e = rw e refl
position_numbers entry choices.Max e = rw e refl
position_numbers entry choices.Sum e = rw e refl
position_numbers entry choices.MinMax e = rw e refl
position_numbers entry choices.MinMaxSum e = rw e refl

extra_numbers :
    (entry : ℕ) (choice : Choice) → nat_lt entry 32 ≡ false → choice ≡ choices.Value →
    numbers_size entry (quantities_of choice) ≡ (if nat_lt entry 36 then 8 else 4)
extra_numbers entry choice e is =
    ap (λ c. numbers_size entry (quantities_of c)) is ∙ rw e (omega arith)

pub field_numbers : (field : Field) → IsField field → numbers_size field.entry (quantities_of field.choice) ≡ field_size field
field_numbers field is = elim (cases_lt field.entry 32) [
  | inl position ↦
      let e : nat_lt field.entry 32 ≡ true = lt-ltb field.entry 32 position in
      rw e (position_numbers field.entry field.choice e)
  | inr extra ↦
      let e : nat_lt field.entry 32 ≡ false = le-ltb field.entry 32 extra in
      rw e (extra_numbers field.entry field.choice e (is.suits.1 extra))
]

-- one more number
pub number_more :
    (is_scaled : Bool) (field : Field) (qs : List Quantity) (i : ℕ) (q d : Quantity) (text new all rest more end : List ℕ) →
    i < length qs → q ≡ get_or qs i d → new ≡ text ++ (codes " " ++ number_text is_scaled field q rest) →
    more ≡ drop (number_size field.entry q) rest → text ++ numbers_text is_scaled field (drop i qs) rest ≡ all →
    numbers_size field.entry (drop i qs) ≤ length rest → drop (numbers_size field.entry (drop i qs)) rest ≡ end →
    (new ++ numbers_text is_scaled field (drop (i + 1) qs) more ≡ all)
    × (numbers_size field.entry (drop (i + 1) qs) ≤ length more)
    × (drop (numbers_size field.entry (drop (i + 1) qs)) more ≡ end)
number_more is_scaled field qs i q d text new all rest more end below is added cut before room left =
    let next : drop i qs ≡ q ∷ drop (i + 1) qs = next_of qs i q d below is in
    let others : List Quantity = drop (i + 1) qs in
    let number : List ℕ = codes " " ++ number_text is_scaled field q rest in
    let size : ℕ = number_size field.entry q in
    let all_is : text ++ (number ++ numbers_text is_scaled field others (drop size rest)) ≡ all =
    subst (λ l. text ++ numbers_text is_scaled field l rest ≡ all) next before in
    let sized : size + numbers_size field.entry others ≤ length rest = subst (λ l. numbers_size field.entry l ≤ length rest) next room in
    let end_is : drop (size + numbers_size field.entry others) rest ≡ end =
    subst (λ l. drop (numbers_size field.entry l) rest ≡ end) next left in (
      rw (added, cut) (append_assoc text number (numbers_text is_scaled field others (drop size rest)) ∙ all_is),
      rw cut (omega (arith, sized, length-drop size rest)),
      rw cut (drop-drop (numbers_size field.entry others) size rest ∙ end_is),
    )

pub number_fits :
    (entry : ℕ) (qs : List Quantity) (i : ℕ) (q d : Quantity) (room : ℕ) → i < length qs → q ≡ get_or qs i d →
    numbers_size entry (drop i qs) ≤ room → number_size entry q ≤ room
number_fits entry qs i q d room below is fits =
    let sized : number_size entry q + numbers_size entry (drop (i + 1) qs) ≤ room =
    subst (λ l. numbers_size entry l ≤ room) (next_of qs i q d below is) fits in
    omega (arith, sized)

-- one more field
pub field_more :
    (is_scaled : Bool) (fields : List Field) (i : ℕ) (field d : Field) (text new all rest more : List ℕ) →
    i < length fields → field ≡ get_or fields i d → new ≡ text ++ numbers_text is_scaled field (quantities_of field.choice) rest →
    more ≡ drop (field_size field) rest → text ++ fields_text is_scaled (drop i fields) rest ≡ all →
    size_of (drop i fields) ≤ length rest →
    (new ++ fields_text is_scaled (drop (i + 1) fields) more ≡ all) × (size_of (drop (i + 1) fields) ≤ length more)
field_more is_scaled fields i field d text new all rest more below is added cut before room =
    let next : drop i fields ≡ field ∷ drop (i + 1) fields = next_of fields i field d below is in
    let others : List Field = drop (i + 1) fields in
    let numbers : List ℕ = numbers_text is_scaled field (quantities_of field.choice) rest in
    let size : ℕ = field_size field in
    let all_is : text ++ (numbers ++ fields_text is_scaled others (drop size rest)) ≡ all =
    subst (λ l. text ++ fields_text is_scaled l rest ≡ all) next before in
    let sized : size + size_of others ≤ length rest = subst (λ l. size_of l ≤ length rest) next room in (
      rw (added, cut) (append_assoc text numbers (fields_text is_scaled others (drop size rest)) ∙ all_is),
      rw cut (omega (arith, sized, length-drop size rest)),
    )

pub field_fits :
    (fields : List Field) (i : ℕ) (field d : Field) (room : ℕ) → i < length fields → field ≡ get_or fields i d →
    size_of (drop i fields) ≤ room → field_size field ≤ room
field_fits fields i field d room below is fits =
    let sized : field_size field + size_of (drop (i + 1) fields) ≤ room =
    subst (λ l. size_of l ≤ room) (next_of fields i field d below is) fits in
    omega (arith, sized)

pub all_fields :
    (is_scaled : Bool) (fields : List Field) (i : ℕ) (text all rest : List ℕ) → length fields ≤ i →
    text ++ fields_text is_scaled (drop i fields) rest ≡ all → text ≡ all
all_fields is_scaled fields i text all rest beyond before =
    sym (ap (λ l. text ++ fields_text is_scaled l rest) (drop_all i fields beyond) ∙ append-nil text) ∙ before

pub all_numbers :
    (is_scaled : Bool) (field : Field) (qs : List Quantity) (i : ℕ) (text all rest : List ℕ) → length qs ≤ i →
    text ++ numbers_text is_scaled field (drop i qs) rest ≡ all → text ≡ all
all_numbers is_scaled field qs i text all rest beyond before =
    sym (ap (λ l. text ++ numbers_text is_scaled field l rest) (drop_all i qs beyond) ∙ append-nil text) ∙ before

pub all_cut :
    (entry : ℕ) (qs : List Quantity) (i : ℕ) (rest end : List ℕ) → length qs ≤ i → drop (numbers_size entry (drop i qs)) rest ≡ end →
    rest ≡ end
all_cut entry qs i rest end beyond before = sym (ap (λ l. drop (numbers_size entry l) rest) (drop_all i qs beyond)) ∙ before
