-- When a target names no slot, said by the names of the catalogue.
use Rattle.std.specs.Prelude.{◌≡◌, ◌≢◌, ◌⊎◌, ℕ, ◌+◌, ◌<◌, ◌≤◌, List, [], ◌∷◌, ◌++◌, length, Option, Some, None, true, Contains}
use Rattle.std.specs.List.{list_all}
use Rattle.std.specs.Char.{is_ascii_digit}
use Rattle.pb_names.specs.declared.TheConstants.{BLOCKS}
use Rattle.pb_fields.specs.declared.types.Attribute.{Attribute}
use Rattle.pb_fields.specs.Types.{attribute_text, attributes_of}
use Rattle.pb_fields.specs.Places.{block_of, count_of, fields_of, field_of, type_of}
use Rattle.pb_fields.specs.Finding.{before_point, after_point}

-- the name is that of the block, with this number after it: digits, or nothing
abbrev pub IsOfBlock : List ℕ → ℕ → List ℕ → Type 0
IsOfBlock name b number =
    (b < BLOCKS) × (name ≡ (block_of b).name ++ number) × (list_all is_ascii_digit number ≡ true)

-- the number is the digit of that instance, or is missing at the only instance
abbrev pub IsOfInstance : ℕ → List ℕ → ℕ → Type 0
IsOfInstance b number i =
    (1 ≤ i) × (i ≤ count_of b) × (((count_of b ≡ 1) × (number ≡ [])) ⊎ (number ≡ (48 + i) ∷ []))

-- the name is that of an instance
abbrev pub NamesInstance : List ℕ → ℕ → ℕ → Type 0
NamesInstance name b i = (number : List ℕ) × IsOfBlock name b number × IsOfInstance b number i

-- what stands after the name of the block, up to the next point, is the name of the field
abbrev pub NamesField : ℕ → Option (List ℕ) → ℕ → Type 0
NamesField b None f = ⊥
NamesField b (Some rest) f = (f < length (fields_of b)) × (before_point rest ≡ (field_of b f).name)

-- what stands after the name of the field
abbrev pub after_field : Option (List ℕ) → Option (List ℕ)
after_field None = None
after_field (Some rest) = after_point rest

-- a name of no block
abbrev pub IsNoBlock : List ℕ → Type 0
IsNoBlock name = (b : ℕ) (number : List ℕ) → ¬ (IsOfBlock name b number)

-- a name of a block, with a number of none of its instances
abbrev pub IsNoInstance : List ℕ → Type 0
IsNoInstance name =
    (b : ℕ) × (number : List ℕ) × IsOfBlock name b number × ((i : ℕ) → ¬ (IsOfInstance b number i))

-- an instance, and after it the name of none of its fields
abbrev pub HasNoField : List ℕ → Type 0
HasNoField target =
    (b : ℕ) × (i : ℕ) × NamesInstance (before_point target) b i
    × ((f : ℕ) → ¬ (NamesField b (after_point target) f))

-- a field of an instance, and after it the name of none of its attributes
abbrev pub HasNoAttribute : List ℕ → Type 0
HasNoAttribute target =
    (b : ℕ) × (i : ℕ) × (f : ℕ) × (name : List ℕ)
    × NamesInstance (before_point target) b i
    × NamesField b (after_point target) f
    × (after_field (after_point target) ≡ Some name)
    × ((a : Attribute) → Contains (attributes_of (type_of b f)) a → name ≢ attribute_text a)

-- a name of a block, with a number that isn't missing and is that of none of its instances
abbrev pub IsWronglyNumbered : List ℕ → Type 0
IsWronglyNumbered name =
    (b : ℕ) × (number : List ℕ) × IsOfBlock name b number × (number ≢ []) × ((i : ℕ) → ¬ (IsOfInstance b number i))
