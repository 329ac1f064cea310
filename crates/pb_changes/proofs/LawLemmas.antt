-- What a second report at once has.
use Rattle.std.proofs.Common.{◌≡◌, ℕ, ◌-◌, ◌<◌, ◌≤◌, ◌&&◌, ◌||◌, not, Bool, true, false, ltb, leb, List, [], ◌∷◌, ◌++◌, length, map, bytes_eq, Option, Some, None, refl, ap, sym, ◌∙◌, arith}
use Rattle.std.proofs.lemmas.Bool.{le-ltb, leb-true, lt-leb}
use Rattle.std.proofs.lemmas.Slice.Eq.{bytes_eq-Decides}
use Rattle.pb_fields.specs.declared.Slot.{Slot}
use Rattle.pb_fields.specs.Entries.{output_entry}
use Rattle.pb_fields.specs.Order.{slots}
use Rattle.pb_buses.specs.declared.Bus.{Bus}
use Rattle.pb_buses.specs.Buses.{last_change}
use Rattle.pb_replies.specs.Replies.{list_reply}
use Rattle.pb_changes.specs.declared.groups.Group.{Group}
use Rattle.pb_changes.specs.declared.groups.Group.TheVariants as groups
use Rattle.pb_changes.specs.Groups.{is_in}
use Rattle.pb_fields.specs.Assigned.{last_assignment, last_place}
use Rattle.pb_changes.specs.Past.{Past}
use Rattle.pb_changes.specs.Report.{Reported, since, is_named_after, is_changed_after, is_reported, line, lines, report, noted, after_report}
use Rattle.pb_changes.proofs.PastLemmas.{named_by_last, changed_by_last, last_below, change_below}
use Rattle.pb_changes.proofs.SlotLemmas.{is_slot, all_slots}
use Rattle.pb_changes.proofs.WalkLemmas.{none_pass}

and_false : (b : Bool) → (b && false) ≡ false
and_false true = refl
and_false false = refl

-- none of the group is reported
no_lines : (g : Group) (r : Reported) (past : Past) (shows : Slot → List ℕ) → ((s : Slot) → is_reported r past shows g s ≡ false) → lines r past shows g ≡ []
no_lines g r past shows none =
    ap (map (line shows g))
    (none_pass is_slot (λ s. is_in g s && is_reported r past shows g s) slots all_slots
    (λ s ok. ap (λ b. is_in g s && b) (none s) ∙ and_false (is_in g s)))

-- only a late assignment comes after all
late_only : (slot : Slot) (xs : List Slot) → is_named_after (length xs) slot xs ≡ leb last_place (last_assignment slot xs)
late_only slot xs =
    let low = last_below slot xs in
    let past_all : ltb (length xs) (last_assignment slot xs) ≡ false = le-ltb (length xs) (last_assignment slot xs) low in
    named_by_last (length xs) slot xs ∙ ap (λ b. b || leb last_place (last_assignment slot xs)) past_all

not_named : (slot : Slot) (xs : List Slot) → length xs < last_place → is_named_after (length xs) slot xs ≡ false
not_named slot xs h =
    let low = last_below slot xs in
    late_only slot xs ∙ lt-leb last_place (last_assignment slot xs) (omega (arith, low, h))

-- no change comes after the present tick
present : (entry : ℕ) (states : List Bus) → last_change entry states ≤ length states - 1
present entry [] = omega arith
present entry (bus ∷ past) = omega (arith, change_below entry bus past)

not_changed : (entry : ℕ) (states : List Bus) → is_changed_after (length states - 1) entry states ≡ false
not_changed entry states =
    changed_by_last (length states - 1) entry states ∙ le-ltb (length states - 1) (last_change entry states) (present entry states)

not_other : (text : List ℕ) → not (bytes_eq text text) ≡ false
not_other text = ap not ((bytes_eq-Decides text text).1 refl)

module _ (past : Past) (shows : Slot → List ℕ) (few : length past.assigned < last_place) (r : Reported) where
  no_config : r.config ≡ Some (length past.assigned) → lines r past shows groups.Config ≡ []
  no_config e =
      no_lines groups.Config r past shows
      (λ s. ap (λ m. since m (λ n. is_named_after n s past.assigned)) e ∙ not_named s past.assigned few)

  no_attr : r.attr ≡ Some (length past.assigned) → lines r past shows groups.Attr ≡ []
  no_attr e =
      no_lines groups.Attr r past shows
      (λ s. ap (λ m. since m (λ n. is_named_after n s past.assigned)) e ∙ not_named s past.assigned few)

  no_table : r.table ≡ Some (length past.assigned) → lines r past shows groups.Table ≡ []
  no_table e =
      no_lines groups.Table r past shows
      (λ s. ap (λ m. since m (λ n. is_named_after n s past.assigned)) e ∙ not_named s past.assigned few)

  no_bits : r.bits ≡ Some (length past.states - 1) → lines r past shows groups.Bits ≡ []
  no_bits e =
      no_lines groups.Bits r past shows
      (λ s. ap (λ m. since m (λ t. is_changed_after t (output_entry s) past.states)) e ∙ not_changed (output_entry s) past.states)

  no_posn : r.posn ≡ Some (length past.states - 1) → lines r past shows groups.Posn ≡ []
  no_posn e =
      no_lines groups.Posn r past shows
      (λ s. ap (λ m. since m (λ t. is_changed_after t (output_entry s) past.states)) e ∙ not_changed (output_entry s) past.states)

  no_read : r.read ≡ Some shows → lines r past shows groups.Read ≡ []
  no_read e =
      no_lines groups.Read r past shows
      (λ s. ap (λ m. since m (λ before. not (bytes_eq (before s) (shows s)))) e ∙ not_other (shows s))

six : {X : Type 0} (a b c d e f : List X) → a ≡ [] → b ≡ [] → c ≡ [] → d ≡ [] → e ≡ [] → f ≡ [] → a ++ (b ++ (c ++ (d ++ (e ++ (f ++ []))))) ≡ []
six a b c d e f p q r s t u = rw (p, q, r, s, t, u) refl

one : {X : Type 0} (a : List X) → a ≡ [] → a ++ [] ≡ []
one a p = rw p refl

pub second_empty : (reported : Reported) (past : Past) (shows : Slot → List ℕ) (group : Option Group) → length past.assigned < last_place → report (after_report reported past shows group) past shows group ≡ list_reply []
second_empty reported past shows None few =
    let r : Reported = after_report reported past shows None in
    ap list_reply
    (six (lines r past shows groups.Config) (lines r past shows groups.Attr) (lines r past shows groups.Table) (lines r past shows groups.Bits) (lines r past shows groups.Posn) (lines r past shows groups.Read)
    (no_config past shows few r refl) (no_attr past shows few r refl) (no_table past shows few r refl) (no_bits past shows few r refl) (no_posn past shows few r refl) (no_read past shows few r refl))
second_empty reported past shows (Some groups.Config) few =
    let r : Reported = after_report reported past shows (Some groups.Config) in
    ap list_reply (one (lines r past shows groups.Config) (no_config past shows few r refl))
second_empty reported past shows (Some groups.Attr) few =
    let r : Reported = after_report reported past shows (Some groups.Attr) in
    ap list_reply (one (lines r past shows groups.Attr) (no_attr past shows few r refl))
second_empty reported past shows (Some groups.Table) few =
    let r : Reported = after_report reported past shows (Some groups.Table) in
    ap list_reply (one (lines r past shows groups.Table) (no_table past shows few r refl))
second_empty reported past shows (Some groups.Bits) few =
    let r : Reported = after_report reported past shows (Some groups.Bits) in
    ap list_reply (one (lines r past shows groups.Bits) (no_bits past shows few r refl))
second_empty reported past shows (Some groups.Posn) few =
    let r : Reported = after_report reported past shows (Some groups.Posn) in
    ap list_reply (one (lines r past shows groups.Posn) (no_posn past shows few r refl))
second_empty reported past shows (Some groups.Read) few =
    let r : Reported = after_report reported past shows (Some groups.Read) in
    ap list_reply (one (lines r past shows groups.Read) (no_read past shows few r refl))

late_named : (slot : Slot) (xs : List Slot) → is_named_after (length xs) slot xs ≡ true → last_place ≤ last_assignment slot xs
late_named slot xs e = leb-true last_place (last_assignment slot xs) (sym (late_only slot xs) ∙ e)

pub second_late : (reported : Reported) (past : Past) (shows : Slot → List ℕ) (group : Group) (slot : Slot) → is_reported (noted past shows reported group) past shows group slot ≡ true → last_place ≤ last_assignment slot past.assigned
second_late reported past shows groups.Config slot e = late_named slot past.assigned e
second_late reported past shows groups.Attr slot e = late_named slot past.assigned e
second_late reported past shows groups.Table slot e = late_named slot past.assigned e
second_late reported past shows groups.Bits slot e =
    let no = not_changed (output_entry slot) past.states in
    cc (sym no ∙ e)
second_late reported past shows groups.Posn slot e =
    let no = not_changed (output_entry slot) past.states in
    cc (sym no ∙ e)
second_late reported past shows groups.Read slot e =
    let no = not_other (shows slot) in
    cc (sym no ∙ e)
