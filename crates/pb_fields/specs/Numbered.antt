-- What stands at which place, as places with names.
use Rattle.std.specs.Prelude.{ℕ, ◌+◌, List, [], ◌∷◌, map}
use Rattle.pb_fields.specs.declared.types.FieldType.{FieldType}
use Rattle.pb_fields.specs.Types.{attributes_of, attribute_text}
use Rattle.pb_fields.specs.Catalogue.{catalogue}
use Rattle.pb_fields.specs.Places.{fields_of}
use Rattle.pb_fields.specs.Labels.{label_list}

-- texts with their places, where the first has this one
abbrev pub numbered : ℕ → List (List ℕ) → List (ℕ × List ℕ)
numbered n [] = []
numbered n (text ∷ texts) = (n, text) ∷ numbered (n + 1) texts

-- all blocks
abbrev pub blocks_named : List (ℕ × List ℕ)
blocks_named = numbered 0 (map (λ row. row.name) catalogue)

-- all fields of a block
abbrev pub fields_named : ℕ → List (ℕ × List ℕ)
fields_named b = numbered 0 (map (λ row. row.name) (fields_of b))

-- all attributes of a field of this type, which are counted from 1
abbrev pub attributes_named : FieldType → List (ℕ × List ℕ)
attributes_named t = numbered 1 (map attribute_text (attributes_of t))

-- all labels of the list of that number
abbrev pub labels_named : ℕ → List (ℕ × List ℕ)
labels_named n = numbered 0 (label_list n)
