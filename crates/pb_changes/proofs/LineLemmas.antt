-- The lines by what is told and kept are those of the report over the past.
use Rattle.std.proofs.Common.{◌≡◌, ℕ, ◌<◌, ◌≤◌, ◌&&◌, ◌||◌, ◌==◌, not, Bool, true, false, eqb, ltb, List, [], ◌++◌, map, codes, bytes_eq, Option, Some, None, refl, ap, sym, ◌∙◌, arith}
use Rattle.std.specs.List.{filter, flat_map, range_with_len, list_all}
use Rattle.std.specs.Option.{option_map}
use Rattle.std.proofs.lemmas.Bool.{le-ltb, ltb-true}
use Rattle.std.proofs.lemmas.Bool.Decides.{nat_tests}
use Rattle.pb_fields.specs.declared.Slot.{Slot}
use Rattle.pb_fields.specs.Catalogue.{catalogue}
use Rattle.pb_fields.specs.Entries.{output_entry}
use Rattle.pb_fields.specs.Names.{target_of}
use Rattle.pb_fields.specs.Order.{slots}
use Rattle.pb_fields.specs.Slots.{IsSlot}
use Rattle.pb_replies.specs.Replies.{listed}
use Rattle.pb_changes.specs.declared.groups.Group.{Group}
use Rattle.pb_changes.specs.declared.groups.Group.TheVariants as groups
use Rattle.pb_changes.specs.declared.marks.Marks.{Marks}
use Rattle.pb_changes.specs.Groups.{is_in, slots_in}
use Rattle.pb_fields.specs.Assigned.{last_place, told_place}
use Rattle.pb_changes.specs.Past.{Past, Told, AgreesWithPast}
use Rattle.pb_changes.specs.Report.{Reported, since, is_named_after, is_changed_after, is_reported, line, lines}
use Rattle.pb_changes.specs.Kept.{read_at, AreShownAs, AreKept, Keeps}
use Rattle.pb_changes.specs.Helpers.{is_later, is_due, lines_due, NoneIsDue, is_read_due, read_line, read_lines}
use Rattle.pb_changes.proofs.PastLemmas.{assigned_later, changed_by_last, last_below}
use Rattle.pb_changes.proofs.SlotLemmas.{is_slot, slot_from, all_slots, entry_small}
use Rattle.pb_changes.proofs.ReadLemmas.{same_values}
use Rattle.pb_changes.proofs.WalkLemmas.{same_lines, none_pass, filter_both, filter_mapped}

-- a slot of a group of assignments is due where it is reported
named_due : (g : Group) (told : Told) (past : Past) (slot : Slot) (r : Option ℕ) → AgreesWithPast told past → IsSlot slot → ((m : ℕ) → is_later g m told slot ≡ (ltb m (told.assigned_at slot) || told.assigned_at slot == last_place)) → is_due g (option_map told_place r) told slot ≡ since r (λ n. is_named_after n slot past.assigned)
named_due g told past slot None agrees is by = refl
named_due g told past slot (Some n) agrees is by = by (told_place n) ∙ assigned_later told past n slot agrees is

-- and so is one of a group of the buses
changed_due : (g : Group) (told : Told) (past : Past) (slot : Slot) (r : Option ℕ) → AgreesWithPast told past → IsSlot slot → ((m : ℕ) → is_later g m told slot ≡ ltb m (told.changed_at (output_entry slot))) → is_due g r told slot ≡ since r (λ t. is_changed_after t (output_entry slot) past.states)
changed_due g told past slot None agrees is by = refl
changed_due g told past slot (Some t) agrees is by =
    by t
    ∙ ap (ltb t) (agrees.changed (output_entry slot) (entry_small slot is))
    ∙ sym (changed_by_last t (output_entry slot) past.states)

-- the lines of what is due are those of what is reported
lines_join : (g : Group) (mark : Option ℕ) (told : Told) (past : Past) (reported : Reported) → ((s : Slot) → IsSlot s → is_due g mark told s ≡ is_reported reported past told.shows g s) → lines_due g mark told slots ≡ flat_map listed (lines reported past told.shows g)
lines_join g mark told past reported due =
    ap (flat_map listed)
    (same_lines is_slot (λ s. is_in g s && is_due g mark told s) (λ s. is_in g s && is_reported reported past told.shows g s) (line told.shows g) (line told.shows g) slots all_slots
    (λ s ok. ap (λ b. is_in g s && b) (due s (slot_from s ok)))
    (λ s ok. refl))

module _ (marks : Marks) (told : Told) (past : Past) (reported : Reported) (agrees : AgreesWithPast told past) (keeps : Keeps marks reported) where
  pub config_lines : lines_due groups.Config marks.config told slots ≡ flat_map listed (lines reported past told.shows groups.Config)
  config_lines =
      lines_join groups.Config marks.config told past reported
      (λ s is. ap (λ m. is_due groups.Config m told s) keeps.config
      ∙ named_due groups.Config told past s reported.config agrees is (λ m. refl))

  pub attr_lines : lines_due groups.Attr marks.attr told slots ≡ flat_map listed (lines reported past told.shows groups.Attr)
  attr_lines =
      lines_join groups.Attr marks.attr told past reported
      (λ s is. ap (λ m. is_due groups.Attr m told s) keeps.attr
      ∙ named_due groups.Attr told past s reported.attr agrees is (λ m. refl))

  pub table_lines : lines_due groups.Table marks.table told slots ≡ flat_map listed (lines reported past told.shows groups.Table)
  table_lines =
      lines_join groups.Table marks.table told past reported
      (λ s is. ap (λ m. is_due groups.Table m told s) keeps.table
      ∙ named_due groups.Table told past s reported.table agrees is (λ m. refl))

  pub bits_lines : lines_due groups.Bits marks.bits told slots ≡ flat_map listed (lines reported past told.shows groups.Bits)
  bits_lines =
      lines_join groups.Bits marks.bits told past reported
      (λ s is. ap (λ m. is_due groups.Bits m told s) keeps.bits
      ∙ changed_due groups.Bits told past s reported.bits agrees is (λ m. refl))

  pub posn_lines : lines_due groups.Posn marks.posn told slots ≡ flat_map listed (lines reported past told.shows groups.Posn)
  posn_lines =
      lines_join groups.Posn marks.posn told past reported
      (λ s is. ap (λ m. is_due groups.Posn m told s) keeps.posn
      ∙ changed_due groups.Posn told past s reported.posn agrees is (λ m. refl))

-- Read fields.

all_fields : filter (is_in groups.Read) slots ≡ map read_at (range_with_len 0 24)
unfolding slots_in slots catalogue
all_fields = refl

places : list_all (λ k. ltb k 24) (range_with_len 0 24) ≡ true
places = refl

-- a read field is due where it is reported
read_due : (olds : Option (List ℕ)) (before : Option (Slot → List ℕ)) (shows : Slot → List ℕ) (values : List ℕ) (k : ℕ) → k < 24 → AreKept olds before → AreShownAs shows values → is_read_due olds values k ≡ since before (λ b. not (bytes_eq (b (read_at k)) (shows (read_at k))))
read_due None None shows values k h kept new = refl
read_due (Some olds) (Some before) shows values k h kept new = same_values before shows olds values k h (kept k h) (new k h)
read_due None (Some before) shows values k h kept new = absurd kept
read_due (Some olds) None shows values k h kept new = absurd kept

pub reads_lines : (marks : Marks) (past : Past) (reported : Reported) (shows : Slot → List ℕ) (values : List ℕ) → Keeps marks reported → AreShownAs shows values → read_lines marks.read values (range_with_len 0 24) ≡ flat_map listed (lines reported past shows groups.Read)
reads_lines marks past reported shows values keeps new =
    let test : Slot → Bool = is_reported reported past shows groups.Read in
    let text : Slot → List ℕ = line shows groups.Read in
    ap (flat_map listed)
    (same_lines (λ k. ltb k 24) (is_read_due marks.read values) (λ k. test (read_at k)) (read_line values) (λ k. text (read_at k)) (range_with_len 0 24) places
    (λ k ok. read_due marks.read reported.read shows values k (ltb-true k 24 ok) keeps.read new)
    (λ k ok. ap (λ t. target_of (read_at k) ++ codes "=" ++ t) (new k (ltb-true k 24 ok)).text)
    ∙ sym (filter_mapped test read_at text (range_with_len 0 24))
    ∙ sym (ap (λ xs. map text (filter test xs)) all_fields)
    ∙ sym (ap (map text) (filter_both (is_in groups.Read) test slots)))

-- Nothing is due.

pub quiet_bits : (told : Told) (mark : ℕ) → ((entry : ℕ) → entry < 160 → told.changed_at entry ≤ mark) → NoneIsDue groups.Bits (Some mark) told
quiet_bits told mark quiet slot is = le-ltb mark (told.changed_at (output_entry slot)) (quiet (output_entry slot) (entry_small slot is))

pub quiet_posn : (told : Told) (mark : ℕ) → ((entry : ℕ) → entry < 160 → told.changed_at entry ≤ mark) → NoneIsDue groups.Posn (Some mark) told
quiet_posn told mark quiet slot is = le-ltb mark (told.changed_at (output_entry slot)) (quiet (output_entry slot) (entry_small slot is))

-- no assignment was made after so many
pub quiet_assigned : (told : Told) (past : Past) (mark : ℕ) → AgreesWithPast told past → told.assignments ≤ mark → told.assignments < last_place → (slot : Slot) → IsSlot slot → (ltb mark (told.assigned_at slot) || told.assigned_at slot == last_place) ≡ false
quiet_assigned told past mark agrees all early slot is =
    let at = agrees.assigned slot is in
    let count = agrees.assignments in
    let low = last_below slot past.assigned in
    let later : ltb mark (told.assigned_at slot) ≡ false = le-ltb mark (told.assigned_at slot) (omega (arith, at, count, low, all)) in
    let last : told.assigned_at slot < last_place = omega (arith, at, count, low, early) in
    let other : eqb (told.assigned_at slot) last_place ≡ false = grind (arith, nat_tests) in
    rw (later, other) refl

-- a group that is no group of the buses
pub others_by : (g : Group) (told : Told) (slot : Slot) (m : ℕ) → (g ≡ groups.Bits → ⊥) → (g ≡ groups.Posn → ⊥) → is_later g m told slot ≡ (ltb m (told.assigned_at slot) || told.assigned_at slot == last_place)
others_by groups.Config told slot m b p = refl
others_by groups.Attr told slot m b p = refl
others_by groups.Table told slot m b p = refl
others_by groups.Bits told slot m b p = absurd (b refl)
others_by groups.Posn told slot m b p = absurd (p refl)
others_by groups.Read told slot m b p = refl

pub no_lines : (g : Group) (mark : Option ℕ) (told : Told) → NoneIsDue g mark told → lines_due g mark told slots ≡ []
no_lines g mark told none =
    ap (λ xs. flat_map listed (map (line told.shows g) xs))
    (none_pass is_slot (λ s. is_in g s && is_due g mark told s) slots all_slots (λ s ok. ap (λ b. is_in g s && b) (none s (slot_from s ok)) ∙ and_false (is_in g s)))
  where
    and_false : (b : Bool) → (b && false) ≡ false
    and_false true = refl
    and_false false = refl
