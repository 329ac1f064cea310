-- Change reports, over the whole past.
use Rattle.std.specs.Prelude.{ℕ, suc, ◌-◌, ◌&&◌, ◌||◌, not, nat_lt, nat_le, Bool, true, false, List, [], ◌∷◌, ◌++◌, length, map, codes, Option, Some, None}
use Rattle.std.specs.List.{filter, flat_map, fold}
use Rattle.std.specs.Str.{bytes_eq}
use Rattle.std.specs.Ordering.{int_eq}
use Rattle.pb_fields.specs.declared.Slot.{Slot}
use Rattle.pb_fields.specs.Entries.{output_entry}
use Rattle.pb_fields.specs.Names.{target_of}
use Rattle.pb_fields.specs.Order.{slots}
use Rattle.pb_buses.specs.declared.Bus.{Bus}
use Rattle.pb_buses.specs.Buses.{value}
use Rattle.pb_replies.specs.Replies.{list_reply}
use Rattle.pb_changes.specs.declared.groups.Group.{Group}
use Rattle.pb_changes.specs.declared.groups.Group.TheVariants as groups
use Rattle.pb_changes.specs.Groups.{asked, is_in}
use Rattle.pb_fields.specs.Assigned.{is_same, last_place}
use Rattle.pb_changes.specs.Past.{Past}

-- What was last reported to a session, for each group: how many assignments had been accepted, or the tick,
-- when the group was last reported or reset; of the read fields what was shown of each. None where all of
-- the group is reported next.
pub record Reported : Type 0 where
  pub config : Option ℕ
  pub attr : Option ℕ
  pub table : Option ℕ
  pub bits : Option ℕ
  pub posn : Option ℕ
  pub read : Option (Slot → List ℕ)

-- a session that has just opened
abbrev pub opening : Reported
opening = record { config = None; attr = None; table = None; bits = None; posn = None; read = None }

-- Some assignment names the slot, at a place after the first so many, or at the last place that is told or
-- later.
abbrev pub is_named_after : ℕ → Slot → List Slot → Bool
is_named_after n slot [] = false
is_named_after n slot (latest ∷ earlier) =
    ((nat_lt n (suc (length earlier)) || nat_le last_place (suc (length earlier))) && is_same slot latest)
    || is_named_after n slot earlier

-- at some tick after this one the entry differed from the tick before
abbrev pub is_changed_after : ℕ → ℕ → List Bus → Bool
is_changed_after tick entry [] = false
is_changed_after tick entry (bus ∷ []) = false
is_changed_after tick entry (bus ∷ before ∷ past) =
    (nat_lt tick (suc (length past)) && not (int_eq (value bus entry) (value before entry)))
    || is_changed_after tick entry (before ∷ past)

-- all is reported where there is no mark, else what passes the test by it
abbrev pub since : {X : Type 0} → Option X → (X → Bool) → Bool
since None test = true
since (Some mark) test = test mark

-- A slot of the group is reported. What is shown of the slots now is `shows`.
abbrev pub is_reported : Reported → Past → (Slot → List ℕ) → Group → Slot → Bool
is_reported reported past shows groups.Config slot = since reported.config (λ n. is_named_after n slot past.assigned)
is_reported reported past shows groups.Attr slot = since reported.attr (λ n. is_named_after n slot past.assigned)
is_reported reported past shows groups.Table slot = since reported.table (λ n. is_named_after n slot past.assigned)
is_reported reported past shows groups.Bits slot =
    since reported.bits (λ tick. is_changed_after tick (output_entry slot) past.states)
is_reported reported past shows groups.Posn slot =
    since reported.posn (λ tick. is_changed_after tick (output_entry slot) past.states)
is_reported reported past shows groups.Read slot =
    since reported.read (λ before. not (bytes_eq (before slot) (shows slot)))

-- the line of a slot, without the `!` before it: of a table it has no value
abbrev pub line : (Slot → List ℕ) → Group → Slot → List ℕ
line shows groups.Table slot = target_of slot ++ codes "<"
line shows _ slot = target_of slot ++ codes "=" ++ shows slot

-- the lines of a group, in the order of the catalogue
abbrev pub lines : Reported → Past → (Slot → List ℕ) → Group → List (List ℕ)
lines reported past shows group =
    map (line shows group) (filter (λ slot. is_in group slot && is_reported reported past shows group slot) slots)

-- the report of a group, or of all
abbrev pub report : Reported → Past → (Slot → List ℕ) → Option Group → List ℕ
report reported past shows group = list_reply (flat_map (lines reported past shows) (asked group))

-- nothing of the group that came up to now is reported next
abbrev pub noted : Past → (Slot → List ℕ) → Reported → Group → Reported
noted past shows reported groups.Config = record reported { config = Some (length past.assigned) }
noted past shows reported groups.Attr = record reported { attr = Some (length past.assigned) }
noted past shows reported groups.Table = record reported { table = Some (length past.assigned) }
noted past shows reported groups.Bits = record reported { bits = Some (length past.states - 1) }
noted past shows reported groups.Posn = record reported { posn = Some (length past.states - 1) }
noted past shows reported groups.Read = record reported { read = Some shows }

-- all of the group is reported next
abbrev pub reopened : Reported → Group → Reported
reopened reported groups.Config = record reported { config = None }
reopened reported groups.Attr = record reported { attr = None }
reopened reported groups.Table = record reported { table = None }
reopened reported groups.Bits = record reported { bits = None }
reopened reported groups.Posn = record reported { posn = None }
reopened reported groups.Read = record reported { read = None }

-- what a report leaves
abbrev pub after_report : Reported → Past → (Slot → List ℕ) → Option Group → Reported
after_report reported past shows group = fold (noted past shows) reported (asked group)

-- what a reset leaves: all is reported next, or nothing up to now is
abbrev pub after_reset : Reported → Past → (Slot → List ℕ) → Option Group → Bool → Reported
after_reset reported past shows group true = fold reopened reported (asked group)
after_reset reported past shows group false = after_report reported past shows group
