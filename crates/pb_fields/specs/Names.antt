-- How the slots are printed.
use Rattle.std.specs.Prelude.{◌≡◌, ◌⊎◌, ℕ, ◌+◌, ◌==◌, List, [], ◌∷◌, ◌++◌, Option, Some, None, if◌then◌else◌}
use Rattle.pb_fields.specs.declared.slots.Slot.{Slot}
use Rattle.pb_fields.specs.declared.types.Attribute.{Attribute}
use Rattle.pb_fields.specs.Types.{attribute_text}
use Rattle.pb_fields.specs.Places.{block_of, count_of, field_of}
use Rattle.pb_fields.specs.Slots.{attribute_at}

-- the number of an instance, which a block with one instance is printed without; no block has more than nine
abbrev pub number_text : ℕ → ℕ → List ℕ
number_text b i = if count_of b == 1 then [] else (48 + i) ∷ []

-- the name of an instance
abbrev pub instance_text : ℕ → ℕ → List ℕ
instance_text b i = (block_of b).name ++ number_text b i

-- the attribute after the field, with the point between them
abbrev pub attribute_end : Option Attribute → List ℕ
attribute_end None = []
attribute_end (Some attribute) = 46 ∷ attribute_text attribute

-- the printed target of a slot, as `LUT1.INPA` or `LUT1.INPA.DELAY`
abbrev pub target_of : Slot → List ℕ
target_of slot =
    instance_text slot.block slot.instance ++ 46 ∷ (field_of slot.block slot.field).name
    ++ attribute_end (attribute_at slot)

-- the same with the number 1 after a block with one instance
abbrev pub numbered_target_of : Slot → List ℕ
numbered_target_of slot =
    ((block_of slot.block).name ++ 49 ∷ []) ++ 46 ∷ (field_of slot.block slot.field).name
    ++ attribute_end (attribute_at slot)

-- a text is a name of the slot: the printed target, or for a block with one instance that with the number 1
abbrev pub IsNameOf : List ℕ → Slot → Type 0
IsNameOf text slot =
    (text ≡ target_of slot) ⊎ ((count_of slot.block ≡ 1) × (text ≡ numbered_target_of slot))
