-- What the face of the tests tells.
use Rattle.std.specs.Prelude.{ℕ, ◌==◌, List, codes, if◌then◌else◌}
use Rattle.pb_fields.specs.declared.Slot.{Slot}
use Rattle.pb_fields.specs.Slots.{kind_of}
use Rattle.pb_fields.specs.Values.{shown}
use Rattle.pb_changes.specs.declared.Group.TheVariants as groups
use Rattle.pb_changes.specs.Groups.{is_in}
use Rattle.pb_fields.specs.Assigned.{is_same}
use Rattle.pb_changes.specs.Past.{Told}
use Rattle.changes_tests.specs.declared.fakes.Fake.{Fake}

-- what is shown of a slot: a read field has the raw value 0, every other slot the text 7
abbrev pub shows_of : Slot → List ℕ
shows_of slot = if is_in groups.Read slot then shown (kind_of slot) 0 else codes "7"

abbrev pub told_of : Fake → Told
told_of face =
    record {
      assigned_at = λ slot. if is_same slot face.slot then face.place else 0;
      changed_at = λ entry. if entry == face.entry then face.changed else 0;
      shows = shows_of;
      tick = face.tick;
      assignments = face.count;
    }
