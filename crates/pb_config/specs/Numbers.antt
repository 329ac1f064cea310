-- The numbers of assignments: each assignment that is accepted, and each table write, has one, counted from 1
-- over all slots.
use Rattle.std.specs.Prelude.{◌≡◌, ℕ, ◌+◌, List, replicate, length, slice_set, slice_index_or}
use Rattle.std.specs.List.{fold}
use Rattle.pb_fields.specs.declared.Slot.{Slot}
use Rattle.pb_fields.specs.Slots.{IsSlot}
use Rattle.pb_fields.specs.Assigned.{last_assignment, told_place}
use Rattle.pb_config.specs.Settings.{place, place_count}

-- the numbers of the slots' last assignments by the places of the slots, 0 where there is none; and how many
-- assignments there were
pub record Numbers : Type 0 where
  pub last : List ℕ
  pub count : ℕ

-- n slots, none of which was assigned
unfoldable pub none_of : ℕ → List ℕ
none_of n = replicate n 0

-- the numbers at first
abbrev pub no_numbers : Numbers
no_numbers = record { last = none_of place_count; count = 0 }

-- the number of the next assignment, which is kept at 2^64 - 1
abbrev pub next_number : Numbers → ℕ
next_number numbers = told_place (numbers.count + 1)

-- the numbers after the slot was assigned, or its table written
abbrev pub noted : Numbers → Slot → Numbers
noted numbers slot = record {
  last = slice_set numbers.last (place slot) (next_number numbers);
  count = next_number numbers;
}

-- the numbers after these slots were assigned one after the other
abbrev pub all_noted : Numbers → List Slot → Numbers
all_noted numbers slots = fold noted numbers slots

-- the number of the slot's last assignment
abbrev pub number_of : Numbers → Slot → ℕ
number_of numbers slot = slice_index_or numbers.last (place slot) 0

-- the numbers are those of these assignments, from the latest back to the first
pub record AgreesWithAssigned (numbers : Numbers) (assigned : List Slot) : Type 0 where
  pub places : length numbers.last ≡ place_count
  pub total : numbers.count ≡ told_place (length assigned)
  pub each : (slot : Slot) → IsSlot slot → number_of numbers slot ≡ told_place (last_assignment slot assigned)
