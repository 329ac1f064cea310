-- Which of the accepted assignments was a slot's last.
use Rattle.std.specs.Prelude.{ℕ, suc, ◌==◌, ◌&&◌, min, Bool, List, [], ◌∷◌, length, if◌then◌else◌}
use Rattle.pb_fields.specs.declared.slots.Slot.{Slot}

-- one and the same slot
abbrev pub is_same : Slot → Slot → Bool
is_same a b = a.block == b.block && a.instance == b.instance && a.field == b.field && a.attr == b.attr

-- The place of the slot's last assignment in the list, counted from 1 at the first of all; 0 where there is
-- none.
abbrev pub last_assignment : Slot → List Slot → ℕ
last_assignment slot [] = 0
last_assignment slot (latest ∷ earlier) =
    if is_same slot latest then suc (length earlier) else last_assignment slot earlier

-- the last place that is told: later ones are told as this one
abbrev pub last_place : ℕ
last_place = 0xffff_ffff_ffff_ffff

abbrev pub told_place : ℕ → ℕ
told_place place = min place last_place
