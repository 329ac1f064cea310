-- The past of the box, and what a face tells of it.
use Rattle.std.specs.Prelude.{◌≡◌, ℕ, ◌+◌, ◌<◌, List, length}
use Rattle.pb_fields.specs.declared.Slot.{Slot}
use Rattle.pb_fields.specs.Slots.{IsSlot}
use Rattle.pb_fields.specs.Assigned.{last_assignment, told_place}
use Rattle.pb_buses.specs.declared.Bus.{Bus}
use Rattle.pb_buses.specs.Buses.{last_change}

-- The accepted assignments, each by its slot, from the latest back to the first; and the states of both
-- buses, from the present one back to that of tick 0. A table write counts as an assignment of the table.
pub record Past : Type 0 where
  pub assigned : List Slot
  pub states : List Bus

-- What a face tells, as plain data: the place of a slot's last assignment, the tick of an entry's last
-- change, what is shown of a slot, the tick of the box, and how many assignments were accepted.
pub record Told : Type 0 where
  pub assigned_at : Slot → ℕ
  pub changed_at : ℕ → ℕ
  pub shows : Slot → List ℕ
  pub tick : ℕ
  pub assignments : ℕ

-- what is told is that of this past
pub record AgreesWithPast (told : Told) (past : Past) : Type 0 where
  pub assignments : told.assignments ≡ told_place (length past.assigned)
  pub assigned : (slot : Slot) → IsSlot slot → told.assigned_at slot ≡ told_place (last_assignment slot past.assigned)
  pub states : length past.states ≡ told.tick + 1
  pub changed : (entry : ℕ) → entry < 160 → told.changed_at entry ≡ last_change entry past.states
