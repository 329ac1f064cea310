-- What the marks of a session keep in place of the past.
use Rattle.std.specs.Prelude.{◌≡◌, ⊤, ℕ, ◌<◌, ◌^◌, List, slice_index_or, Option, Some, None}
use Rattle.std.specs.Option.{option_map}
use Rattle.pb_fields.specs.declared.Slot.{Slot}
use Rattle.pb_fields.specs.Order.{first_slot}
use Rattle.pb_fields.specs.Slots.{kind_of}
use Rattle.pb_fields.specs.Values.{IsRaw, shown}
use Rattle.pb_changes.specs.declared.groups.Group.TheVariants as groups
use Rattle.pb_changes.specs.declared.marks.Marks.{Marks}
use Rattle.pb_changes.specs.Groups.{slots_in}
use Rattle.pb_fields.specs.Assigned.{told_place}
use Rattle.pb_changes.specs.Report.{Reported}

-- the read field at a place among the read fields, of which there are 24
abbrev pub read_at : ℕ → Slot
read_at place = slice_index_or (slots_in groups.Read) place first_slot

-- the raw value kept at a place is that of which this is shown
pub record IsShownAs (shows : Slot → List ℕ) (values : List ℕ) (place : ℕ) : Type 0 where
  pub small : slice_index_or values place 0 < 2 ^ 64
  pub range : IsRaw (kind_of (read_at place)) (slice_index_or values place 0)
  pub text : shown (kind_of (read_at place)) (slice_index_or values place 0) ≡ shows (read_at place)

-- the raw values of all read fields, in the order of the catalogue
abbrev pub AreShownAs : (Slot → List ℕ) → List ℕ → Type 0
AreShownAs shows values = (place : ℕ) → place < 24 → IsShownAs shows values place

abbrev pub AreKept : Option (List ℕ) → Option (Slot → List ℕ) → Type 0
AreKept None None = ⊤
AreKept (Some values) (Some shows) = AreShownAs shows values
AreKept _ _ = ⊥

-- The marks keep what was reported: numbers of assignments as far as they are told, ticks, and the raw
-- values of what was shown of the read fields.
pub record Keeps (marks : Marks) (reported : Reported) : Type 0 where
  pub config : marks.config ≡ option_map told_place reported.config
  pub attr : marks.attr ≡ option_map told_place reported.attr
  pub table : marks.table ≡ option_map told_place reported.table
  pub bits : marks.bits ≡ reported.bits
  pub posn : marks.posn ≡ reported.posn
  pub read : AreKept marks.read reported.read
