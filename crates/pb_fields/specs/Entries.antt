-- Which output drives which entry of the two buses.
use Rattle.std.specs.Prelude.{ℕ, ◌+◌, ◌-◌, ◌==◌, ◌&&◌, Bool, true, false, List, [], ◌∷◌, length, Option, Some, None, if◌then◌else◌, nat_lt, map, filter, position, slice_get}
use Rattle.std.specs.List.{flat_map, range_with_len}
use Rattle.std.specs.Option.{option_map, unwrap_or}
use Rattle.pb_names.specs.declared.TheConstants.{ITSELF}
use Rattle.pb_names.specs.declared.ttlin.TheConstants as ttlin
use Rattle.pb_names.specs.declared.inenc.TheConstants as inenc
use Rattle.pb_names.specs.declared.bits.TheConstants as bits
use Rattle.pb_names.specs.declared.lut.TheConstants as lut
use Rattle.pb_names.specs.declared.srgate.TheConstants as srgate
use Rattle.pb_names.specs.declared.div.TheConstants as div
use Rattle.pb_names.specs.declared.pulse.TheConstants as pulse
use Rattle.pb_names.specs.declared.counter.TheConstants as counter
use Rattle.pb_names.specs.declared.clock.TheConstants as clock
use Rattle.pb_names.specs.declared.seq.TheConstants as seq
use Rattle.pb_names.specs.declared.pcomp.TheConstants as pcomp
use Rattle.pb_names.specs.declared.pcap.TheConstants as pcap
use Rattle.pb_names.specs.declared.position_bus.TheConstants as position_bus
use Rattle.pb_fields.specs.declared.slots.Slot.{Slot}
use Rattle.pb_fields.specs.declared.types.FieldType.{FieldType}
use Rattle.pb_fields.specs.declared.types.FieldType.TheVariants as types
use Rattle.pb_fields.specs.Places.{count_of, fields_of, type_of}
use Rattle.pb_fields.specs.Order.{slot_at}

abbrev pub is_bit_out : FieldType → Bool
is_bit_out types.BitOut = true
is_bit_out _ = false

abbrev pub is_pos_out : FieldType → Bool
is_pos_out types.PosOut = true
is_pos_out _ = false

-- the outputs of a block, for each instance in turn in the order of its fields
abbrev pub outputs_of : (FieldType → Bool) → ℕ → List Slot
outputs_of is_output b =
    flat_map
    (λ i. map (λ f. slot_at b i f ITSELF) (filter (λ f. is_output (type_of b f)) (range_with_len 0 (length (fields_of b)))))
    (range_with_len 1 (count_of b))

-- the outputs on the bit bus, from entry 0 on
unfoldable pub bit_entries : List Slot
bit_entries =
    flat_map (outputs_of is_bit_out)
    (ttlin.BLOCK ∷ lut.BLOCK ∷ srgate.BLOCK ∷ div.BLOCK ∷ pulse.BLOCK ∷ counter.BLOCK ∷ clock.BLOCK ∷ seq.BLOCK
    ∷ pcomp.BLOCK ∷ pcap.BLOCK ∷ bits.BLOCK ∷ [])

-- the outputs on the position bus, from entry 0 on
unfoldable pub pos_entries : List Slot
pos_entries = flat_map (outputs_of is_pos_out) (inenc.BLOCK ∷ counter.BLOCK ∷ [])

-- the output that drives an entry, where the positions are counted from the end of the bit bus on
abbrev pub at_entry_of : ℕ → Option Slot
at_entry_of entry =
    if nat_lt entry position_bus.FIRST then slice_get bit_entries entry
    else slice_get pos_entries (entry - position_bus.FIRST)

-- the slot is this field of this instance
abbrev pub is_field : ℕ → ℕ → ℕ → Slot → Bool
is_field b i f slot = slot.block == b && slot.instance == i && slot.field == f

abbrev pub first_some : Option ℕ → Option ℕ → Option ℕ
first_some None other = other
first_some (Some n) other = Some n

-- the entry that a field drives: its place on the bit bus, or on the position bus, which is counted from its end on
abbrev pub field_entry : ℕ → ℕ → ℕ → Option ℕ
field_entry b i f =
    first_some (position (is_field b i f) bit_entries)
    (option_map (λ n. position_bus.FIRST + n) (position (is_field b i f) pos_entries))

-- the entry that a slot's field drives, whichever of its attributes the slot is; 0 where it drives none
abbrev pub output_entry : Slot → ℕ
output_entry slot = unwrap_or (field_entry slot.block slot.instance slot.field) 0

-- the entry that a slot drives; an attribute drives none
abbrev pub entry_of : Slot → Option ℕ
entry_of slot = if slot.attr == ITSELF then field_entry slot.block slot.instance slot.field else None
