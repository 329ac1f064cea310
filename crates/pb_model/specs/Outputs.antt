-- The outputs of a block, as slots of the catalogue.
use Rattle.std.specs.Prelude.{Bool, List, length, map, filter}
use Rattle.std.specs.List.{range_with_len}
use Rattle.pb_names.specs.declared.TheConstants.{ITSELF}
use Rattle.pb_fields.specs.declared.Slot.{Slot}
use Rattle.pb_fields.specs.declared.FieldType.{FieldType}
use Rattle.pb_fields.specs.Places.{fields_of, type_of}
use Rattle.pb_fields.specs.Order.{slot_at}
use Rattle.pb_model.specs.Machines.{Name}

-- the outputs of this sort that a block has, in the order of its fields
abbrev pub outputs_named : (FieldType → Bool) → Name → List Slot
outputs_named is_output of =
    map (λ f. slot_at of.kind of.number f ITSELF)
    (filter (λ f. is_output (type_of of.kind f)) (range_with_len 0 (length (fields_of of.kind))))
