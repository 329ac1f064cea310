-- Which slot a target names, and why one names none.
use Rattle.std.specs.Prelude.{ℕ, ◌+◌, ◌-◌, ◌==◌, ◌&&◌, Bool, List, [], ◌∷◌, Option, Some, None, Result, Ok, Err, if◌then◌else◌, nat_eq, nat_le, take, drop, position}
use Rattle.std.specs.List.{position_or_len, list_all}
use Rattle.std.specs.Char.{is_ascii_digit}
use Rattle.std.specs.Cmp.Lexicographic.{pointwise}
use Rattle.std.specs.Option.{option_map}
use Rattle.pb_words.specs.declared.refusals.Refusal.{Refusal}
use Rattle.pb_words.specs.declared.refusals.Refusal.TheVariants as refusals
use Rattle.pb_names.specs.declared.TheConstants.{ITSELF}
use Rattle.pb_fields.specs.declared.slots.Slot.{Slot}
use Rattle.pb_fields.specs.Types.{attribute_text, attributes_of}
use Rattle.pb_fields.specs.Catalogue.{catalogue}
use Rattle.pb_fields.specs.Places.{count_of, fields_of, type_of}

-- the byte is a point
abbrev pub is_point : ℕ → Bool
is_point b = b == 46

-- what stands before the first point; all where there is none
abbrev pub before_point : List ℕ → List ℕ
before_point text = take (position_or_len is_point text) text

-- what stands after the first point; nothing where there is none
abbrev pub after_point : List ℕ → Option (List ℕ)
after_point text = option_map (λ i. drop (i + 1) text) (position is_point text)

-- a block's name has no digit: what stands before the first digit of a name, and the number from there on
abbrev pub stem_of : List ℕ → List ℕ
stem_of name = take (position_or_len is_ascii_digit name) name

abbrev pub number_of : List ℕ → List ℕ
number_of name = drop (position_or_len is_ascii_digit name) name

-- the place of the block with this name
abbrev pub block_with : List ℕ → Option ℕ
block_with stem = position (λ row. pointwise nat_eq row.name stem) catalogue

-- the block that is named, with digits after it or with none
abbrev pub block_named : List ℕ → Option ℕ
block_named name =
    if list_all is_ascii_digit (number_of name) then block_with (stem_of name) else None

-- The instance that a number names. It has no leading zeros. The number 1 may be missing where there is
-- one instance. No block has more than nine.
abbrev pub instance_numbered : ℕ → List ℕ → Option ℕ
instance_numbered count [] = if count == 1 then Some 1 else None
instance_numbered count (digit ∷ []) =
    if nat_le 49 digit && nat_le digit (48 + count) then Some (digit - 48) else None
instance_numbered count (digit ∷ other ∷ more) = None

-- the field of that name
abbrev pub field_named : ℕ → List ℕ → Option ℕ
field_named b name = position (λ row. pointwise nat_eq row.name name) (fields_of b)

-- the attribute of that name, counted from 1; where the target ends with the field, the field itself
abbrev pub attribute_named : ℕ → ℕ → Option (List ℕ) → Option ℕ
attribute_named b f None = Some ITSELF
attribute_named b f (Some name) =
    option_map (λ i. i + 1)
    (position (λ attribute. pointwise nat_eq (attribute_text attribute) name) (attributes_of (type_of b f)))

-- a step that is refused where it finds nothing
abbrev pub or_refused : {A B : Type 0} → Option A → Refusal → (A → Result B Refusal) → Result B Refusal
or_refused None refusal next = Err refusal
or_refused (Some found) refusal next = next found

-- the slot of a target, of which an attribute that it may name is taken apart already
abbrev pub slot_named : ℕ → ℕ → List ℕ → Result Slot Refusal
slot_named b i text =
    or_refused (field_named b (before_point text)) refusals.NoSuchField (λ f.
    or_refused (attribute_named b f (after_point text)) refusals.NoSuchAttribute (λ a.
    Ok (record { block = b; instance = i; field = f; attr = a })))

-- a target without a point names no field
abbrev pub slot_of_rest : ℕ → ℕ → Option (List ℕ) → Result Slot Refusal
slot_of_rest b i None = Err refusals.NoSuchField
slot_of_rest b i (Some text) = slot_named b i text

-- the slot that a target names, or the first refusal that fits: of its block, its number, its field, its attribute
abbrev pub found_of : List ℕ → Result Slot Refusal
found_of text =
    or_refused (block_named (before_point text)) refusals.NoSuchBlock (λ b.
    or_refused (instance_numbered (count_of b) (number_of (before_point text))) refusals.BlockNumberOutOfRange (λ i.
    slot_of_rest b i (after_point text)))

-- a name with a number has the number of an instance
abbrev pub block_numbered : ℕ → List ℕ → Result ℕ Refusal
block_numbered b [] = Ok b
block_numbered b (digit ∷ more) =
    or_refused (instance_numbered (count_of b) (digit ∷ more)) refusals.BlockNumberOutOfRange (λ i. Ok b)

-- the block that a name without a field has, where the number may also be missing
abbrev pub block_found : List ℕ → Result ℕ Refusal
block_found name =
    or_refused (block_named name) refusals.NoSuchBlock (λ b. block_numbered b (number_of name))
