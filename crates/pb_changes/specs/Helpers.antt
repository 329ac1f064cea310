-- Words of private helpers: no public clause cites them.
use Rattle.std.specs.Prelude.{◌≡◌, ℕ, ◌==◌, ◌&&◌, ◌||◌, not, nat_lt, Bool, true, false, List, ◌++◌, map, codes, slice_index_or, Option, Some, None}
use Rattle.std.specs.List.{filter, flat_map}
use Rattle.pb_fields.specs.declared.Slot.{Slot}
use Rattle.pb_fields.specs.Entries.{output_entry}
use Rattle.pb_fields.specs.Names.{target_of}
use Rattle.pb_fields.specs.Slots.{IsSlot, kind_of}
use Rattle.pb_fields.specs.Values.{shown}
use Rattle.pb_replies.specs.Replies.{listed}
use Rattle.pb_changes.specs.declared.groups.Group.{Group}
use Rattle.pb_changes.specs.declared.groups.Group.TheVariants as groups
use Rattle.pb_changes.specs.Groups.{is_in}
use Rattle.pb_fields.specs.Assigned.{last_place}
use Rattle.pb_changes.specs.Past.{Told}
use Rattle.pb_changes.specs.Report.{line}
use Rattle.pb_changes.specs.Kept.{read_at}

-- the lines of what passes a test
abbrev pub listed_if : {X : Type 0} → (X → Bool) → (X → List ℕ) → List X → List ℕ
listed_if test text xs = flat_map listed (map text (filter test xs))

-- a slot that belongs to the bus groups
abbrev pub is_bus : Group → Bool
is_bus groups.Bits = true
is_bus groups.Posn = true
is_bus _ = false

-- what is told of a slot is later than the mark
abbrev pub is_later : Group → ℕ → Told → Slot → Bool
is_later groups.Bits mark told slot = nat_lt mark (told.changed_at (output_entry slot))
is_later groups.Posn mark told slot = nat_lt mark (told.changed_at (output_entry slot))
is_later _ mark told slot = nat_lt mark (told.assigned_at slot) || told.assigned_at slot == last_place

-- a slot of a group that is no group of read fields is reported, by the kept mark
abbrev pub is_due : Group → Option ℕ → Told → Slot → Bool
is_due group None told slot = true
is_due group (Some mark) told slot = is_later group mark told slot

-- none of the group's slots is reported
abbrev pub NoneIsDue : Group → Option ℕ → Told → Type 0
NoneIsDue group mark told = (slot : Slot) → IsSlot slot → is_due group mark told slot ≡ false

-- the slots of a group that are reported, and their lines
abbrev pub lines_due : Group → Option ℕ → Told → List Slot → List ℕ
lines_due group mark told xs = listed_if (λ slot. is_in group slot && is_due group mark told slot) (line told.shows group) xs

-- a group that is no group of read fields
abbrev pub is_unread : Group → Bool
is_unread groups.Read = false
is_unread _ = true

-- the value at a place differs from that last shown
abbrev pub is_read_due : Option (List ℕ) → List ℕ → ℕ → Bool
is_read_due None values place = true
is_read_due (Some before) values place = not (slice_index_or before place 0 == slice_index_or values place 0)

abbrev pub read_line : List ℕ → ℕ → List ℕ
read_line values place =
    target_of (read_at place) ++ codes "=" ++ shown (kind_of (read_at place)) (slice_index_or values place 0)

-- the lines of the read fields at these places
abbrev pub read_lines : Option (List ℕ) → List ℕ → List ℕ → List ℕ
read_lines before values places = listed_if (is_read_due before values) (read_line values) places
