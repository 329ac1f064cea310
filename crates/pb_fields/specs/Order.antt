-- The order of the slots: a field, then its attributes; the fields of an instance, the instances of a block,
-- the blocks of the catalogue.
use Rattle.std.specs.Prelude.{zero, suc, ◌≡◌, ◌⊎◌, ℕ, ◌+◌, ◌<◌, List, [], ◌∷◌, length, Option, Some, None, if◌then◌else◌, nat_lt, map}
use Rattle.std.specs.List.{flat_map, range_with_len}
use Rattle.pb_names.specs.declared.TheConstants.{BLOCKS, ITSELF}
use Rattle.pb_names.specs.declared.ttlin.TheConstants as ttlin
use Rattle.pb_fields.specs.declared.slots.Slot.{Slot}
use Rattle.pb_fields.specs.Types.{attributes_of}
use Rattle.pb_fields.specs.Places.{count_of, fields_of, type_of}
use Rattle.pb_fields.specs.Slots.{attributes_at}

abbrev pub slot_at : ℕ → ℕ → ℕ → ℕ → Slot
slot_at b i f a = record { block = b; instance = i; field = f; attr = a }

-- the first slot of all
abbrev pub first_slot : Slot
first_slot = slot_at ttlin.BLOCK 1 ttlin.VAL ITSELF

-- the slot after this one
abbrev pub next_slot : Slot → Option Slot
next_slot slot =
    if nat_lt slot.attr (length (attributes_at slot)) then
    Some (slot_at slot.block slot.instance slot.field (slot.attr + 1))
    else (if nat_lt (slot.field + 1) (length (fields_of slot.block)) then
    Some (slot_at slot.block slot.instance (slot.field + 1) ITSELF)
    else (if nat_lt slot.instance (count_of slot.block) then
    Some (slot_at slot.block (slot.instance + 1) 0 ITSELF)
    else (if nat_lt (slot.block + 1) BLOCKS then Some (slot_at (slot.block + 1) 1 0 ITSELF) else None)))

-- the slot that follows: the first after none
abbrev pub following_of : Option Slot → Option Slot
following_of None = Some first_slot
following_of (Some slot) = next_slot slot

-- the slots of the catalogue in their order
abbrev pub slots_of_field : ℕ → ℕ → ℕ → List Slot
slots_of_field b i f = map (slot_at b i f) (range_with_len 0 (1 + length (attributes_of (type_of b f))))

abbrev pub slots_of_instance : ℕ → ℕ → List Slot
slots_of_instance b i = flat_map (slots_of_field b i) (range_with_len 0 (length (fields_of b)))

abbrev pub slots_of_block : ℕ → List Slot
slots_of_block b = flat_map (slots_of_instance b) (range_with_len 1 (count_of b))

unfoldable pub slots : List Slot
slots = flat_map slots_of_block (range_with_len 0 BLOCKS)

-- a slot and those that follow it, so many of them at most
abbrev pub visits : ℕ → Option Slot → List Slot
visits n None = []
visits zero (Some slot) = []
visits (suc n) (Some slot) = slot ∷ visits n (next_slot slot)

-- one slot stands before another
abbrev pub Precedes : Slot → Slot → Type 0
Precedes a b =
    (a.block < b.block)
    ⊎ ((a.block ≡ b.block) × (a.instance < b.instance))
    ⊎ ((a.block ≡ b.block) × (a.instance ≡ b.instance) × (a.field < b.field))
    ⊎ ((a.block ≡ b.block) × (a.instance ≡ b.instance) × (a.field ≡ b.field) × (a.attr < b.attr))
