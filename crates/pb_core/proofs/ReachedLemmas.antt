-- The settings of a core that events reach.
use Rattle.std.proofs.Common.{◌≡◌, ℕ, zero, suc, ◌-◌, ap, ◌∙◌, Bool, true, false, List, [], ◌∷◌, codes, Option, Some, None, Result, Ok, Err, IfOk, if◌then◌else◌, refl, subst}
use Rattle.std.specs.Option.{option_map_or}
use Rattle.pb_words.specs.declared.Refusal.{Refusal}
use Rattle.pb_words.specs.declared.Refusal.TheVariants as refusals
use Rattle.pb_words.specs.Refusing.{result_then, result_map}
use Rattle.pb_fields.specs.declared.Slot.{Slot}
use Rattle.pb_fields.specs.Slots.{IsSlot}
use Rattle.pb_fields.specs.Finding.{found_of, block_found}
use Rattle.pb_fields.proofs.NamedLemmas.{found_of-named}
use Rattle.pb_grammar.specs.Grammar.{Said, Query, Assign, Table, Echo, Bad, command_of, after_front, before_end}
use Rattle.pb_config.specs.Assigning.{raw_given, after_by}
use Rattle.pb_config.specs.Reached.{IsReached, at_first, by_assignment}
use Rattle.pb_stim.specs.declared.Row.{Row}
use Rattle.pb_core.specs.declared.targets.Named.{Named}
use Rattle.pb_core.specs.declared.targets.Named.TheVariants as names
use Rattle.pb_core.specs.declared.events.Event.{Event}
use Rattle.pb_core.specs.declared.events.Event.TheVariants as events
use Rattle.pb_core.specs.Core.{CoreState, opening, ticked, ticks_of_core}
use Rattle.std.specs.List.{AllByRecursion}
use Rattle.pb_config.specs.Settings.{Settings}
use Rattle.pb_config.specs.Capturing.{IsCapture, capture_slots, cleared, layout_of}
use Rattle.pb_config.proofs.ClearingLemmas.{all_captures}
use Rattle.pb_core.specs.Captures.{CaptureDeed, clears, arms, disarms, without_value, arming, disarming}
use Rattle.pb_core.specs.Sessions.{is_open}
use Rattle.pb_core.specs.Naming.{is_same, has_point, labels_named, capture_named, changes_named, star_named, listing_named, block_named, named_by}
use Rattle.pb_changes.specs.declared.Group.{Group}
use Rattle.pb_changes.specs.declared.Group.TheVariants as groups
use Rattle.pb_core.specs.Assignments.{given, gives, captures, resets, reset_given, named_given}
use Rattle.pb_core.specs.Writing.{Written, table_write}
use Rattle.pb_core.specs.Answer.{left_by, written_by, asked_of, said_after, done_by, with_mark, after, after_all}

-- where a value is named, it is a slot

unfoldable pub IsSlotThere : Named → Type 0
IsSlotThere (names.Value slot) = IsSlot slot
IsSlotThere _ = Unit {0}

unfoldable pub IsFound : Result Named Refusal → Type 0
IsFound r = IfOk r IsSlotThere

either : (b : Bool) (x y : Result Named Refusal) → IsFound x → IsFound y → IsFound (if b then x else y)
either true x y h k = h
either false x y h k = k

labels_found : (r : Result Slot Refusal) → IsFound (result_map names.Labels r)
unfolding IsFound IsSlotThere
labels_found (Ok slot) = tt
labels_found (Err refusal) = tt

attributes_found : (r : Result Slot Refusal) → IsFound (result_map names.Attributes r)
unfolding IsFound IsSlotThere
attributes_found (Ok slot) = tt
attributes_found (Err refusal) = tt

fields_found : (r : Result ℕ Refusal) → IsFound (result_map names.Fields r)
unfolding IsFound IsSlotThere
fields_found (Ok block) = tt
fields_found (Err refusal) = tt

value_found : (r : Result Slot Refusal) → ((slot : Slot) → r ≡ Ok slot → IsSlot slot) → IsFound (result_map names.Value r)
unfolding IsFound IsSlotThere
value_found (Ok slot) h = h slot refl
value_found (Err refusal) h = tt

refused : (refusal : Refusal) → IsFound (Err refusal)
unfolding IsFound
refused refusal = tt

known : (named : Named) → IsSlotThere named → IsFound (Ok named)
unfolding IsFound
known named h = h

labelled_found : (rest : Option (List ℕ)) → IsFound (option_map_or labels_named rest (Err refusals.NoSuchField))
labelled_found None = refused refusals.NoSuchField
labelled_found (Some target) =
    either (has_point target) _ _ (labels_found (found_of target)) (refused refusals.NoSuchField)

captured_found : (rest : Option (List ℕ)) (other : Result Named Refusal) → IsFound other → IsFound (option_map_or capture_named rest other)
unfolding IsSlotThere
captured_found None other h = h
captured_found (Some name) other h =
    either (is_same name (codes "ARM")) _ _ (known names.Arming tt)
    (either (is_same name (codes "DISARM")) _ _ (known names.Disarming tt)
    (either (is_same name (codes "STATUS")) _ _ (known names.Status tt)
    (either (is_same name (codes "CAPTURED")) _ _ (known names.Captured tt)
    (either (is_same name (codes "COMPLETION")) _ _ (known names.Completion tt) (refused refusals.NoSuchField)))))

reports_found : (rest : Option (List ℕ)) (other : Result Named Refusal) → IsFound other → IsFound (option_map_or changes_named rest other)
unfolding IsSlotThere
reports_found None other h = h
reports_found (Some name) other h =
    either (is_same name (codes "CONFIG")) _ _ (known (names.Changes (Some groups.Config)) tt)
    (either (is_same name (codes "ATTR")) _ _ (known (names.Changes (Some groups.Attr)) tt)
    (either (is_same name (codes "TABLE")) _ _ (known (names.Changes (Some groups.Table)) tt)
    (either (is_same name (codes "BITS")) _ _ (known (names.Changes (Some groups.Bits)) tt)
    (either (is_same name (codes "POSN")) _ _ (known (names.Changes (Some groups.Posn)) tt)
    (either (is_same name (codes "READ")) _ _ (known (names.Changes (Some groups.Read)) tt) (refused refusals.NoSuchField))))))

star_found : (name : List ℕ) → IsFound (star_named name)
unfolding IsSlotThere
star_found name =
    either (is_same name (codes "IDN")) _ _ (known names.Identity tt)
    (either (is_same name (codes "WHO")) _ _ (known names.Sessions tt)
    (either (is_same name (codes "BLOCKS")) _ _ (known names.Blocks tt)
    (either (is_same name (codes "POSITIONS")) _ _ (known names.Positions tt)
    (either (is_same name (codes "CAPTURE")) _ _ (known names.Captures tt)
    (either (is_same name (codes "CHANGES")) _ _ (known (names.Changes None) tt)
    (reports_found (after_front (codes "CHANGES.") name) _
    (captured_found (after_front (codes "PCAP.") name) (option_map_or labels_named (after_front (codes "ENUMS.") name) (Err refusals.NoSuchField))
    (labelled_found (after_front (codes "ENUMS.") name)))))))))

listing_found : (target : List ℕ) (front : Option (List ℕ)) → IsFound (option_map_or listing_named front (result_map names.Value (found_of target)))
listing_found target None = value_found (found_of target) (λ slot e. (found_of-named target slot e).0)
listing_found target (Some front) =
    either (has_point front) _ _ (attributes_found (found_of front)) (fields_found (block_found front))

pub found_by : (target : List ℕ) (name : Option (List ℕ)) → IsFound (option_map_or star_named name (block_named target))
found_by target None = listing_found target (before_end (codes ".*") target)
found_by target (Some name) = star_found name

-- what an event leaves

slot_left : (core : CoreState) (id : ℕ) (slot : Slot) (text : List ℕ) (r : Result ℕ Refusal) →
    after_by core.settings slot text r ≡ (left_by core id (result_map gives (result_map (given slot text) r))).settings
slot_left core id slot text (Ok raw) = refl
slot_left core id slot text (Err refusal) = refl

-- where nothing is captured any more, No was assigned to each CAPTURE
cleared_reached : (slots : List Slot) (settings : Settings) → AllByRecursion IsCapture slots → IsReached settings → IsReached (cleared slots settings)
cleared_reached [] settings all h = h
cleared_reached (slot ∷ slots) settings all h =
    cleared_reached slots _ all.1
    (subst IsReached (ap (after_by settings slot (codes "No")) (all.0.told settings) ∙ all.0.left settings)
    (by_assignment settings slot (codes "No") all.0.in_catalogue h))

deed_left : (core : CoreState) (id : ℕ) (deed : Result CaptureDeed Refusal) → IsReached core.settings → IsReached (left_by core id (result_map captures deed)).settings
deed_left core id (Ok clears) h = cleared_reached capture_slots core.settings all_captures h
deed_left core id (Ok (arms layout)) h = h
deed_left core id (Ok disarms) h = h
deed_left core id (Err refusal) h = h

reset_left : (core : CoreState) (id : ℕ) (group : Option Group) (r : Result Bool Refusal) → IsReached core.settings →
    IsReached (left_by core id (result_map (resets group) r)).settings
reset_left core id group (Ok all) h = h
reset_left core id group (Err refusal) h = h

asked_left : (core : CoreState) (id : ℕ) (r : Result Named Refusal) → IsReached core.settings → IsReached (asked_of core id r).settings
asked_left core id (Ok (names.Changes group)) h = h
asked_left core id (Err refusal) h = h
asked_left core id (Ok _) h = h

left : (core : CoreState) (id : ℕ) (text : List ℕ) (r : Result Named Refusal) → IsFound r → IsReached core.settings →
    IsReached (left_by core id (result_then r (named_given core.settings core.acquisitions text))).settings
unfolding IsFound IsSlotThere
left core id text (Err refusal) f h = h
left core id text (Ok (names.Value slot)) f h =
    subst IsReached (slot_left core id slot text (raw_given core.settings slot text)) (by_assignment core.settings slot text f h)
left core id text (Ok (names.Changes group)) f h = reset_left core id group (reset_given text) h
left core id text (Ok names.Captures) f h = deed_left core id (without_value text (Ok clears)) h
left core id text (Ok names.Arming) f h = deed_left core id (without_value text (arming core.acquisitions (layout_of core.settings))) h
left core id text (Ok names.Disarming) f h = deed_left core id (without_value text (disarming core.acquisitions)) h
left core id text (Ok named) f h = h

table_left : (core : CoreState) (r : Result Written Refusal) → IsReached core.settings → IsReached (written_by core r).settings
table_left core (Ok new) h = h
table_left core (Err refusal) h = h

said_left : (core : CoreState) (id : ℕ) (said : Said) → IsReached core.settings → IsReached (said_after core id said).settings
unfolding named_by
said_left core id (Query target) h = asked_left core id (named_by target) h
said_left core id (Assign target value) h = left core id value (named_by target) (found_by target (after_front (codes "*") target)) h
said_left core id (Table target append base64 body) h = table_left core (table_write core.box.stands target append base64 body) h
said_left core id (Echo text) h = h
said_left core id (Bad refusal) h = h

ticks_left : (n : ℕ) (core : CoreState) → IsReached core.settings → IsReached (ticks_of_core n core).settings
ticks_left zero core h = h
ticks_left (suc n) core h = ticks_left n (ticked core) h

line_left : (is_there : Bool) (core : CoreState) (id : ℕ) (said : Said) → IsReached core.settings →
    IsReached (if is_there then said_after core id said else core).settings
line_left true core id said h = said_left core id said h
line_left false core id said h = h

done_left : (core : CoreState) (event : Event) → IsReached core.settings → IsReached (done_by core event).settings
done_left core (events.Line id text) h = line_left (is_open core.sessions id) core id (command_of text) h
done_left core (events.Advance to most) h = ticks_left (to - core.box.stands.tick) core h
done_left core event h = h

standing_left : (event : Event) (core : CoreState) → IsReached core.settings → IsReached (with_mark event core).settings
standing_left (events.Advance to most) core h = h
standing_left event core h = h

event_left : (core : CoreState) (event : Event) → IsReached core.settings → IsReached (after core event).settings
event_left core event h = standing_left event (done_by core event) (done_left core event h)

all_left : (core : CoreState) (happened : List Event) → IsReached core.settings → IsReached (after_all core happened).settings
all_left core [] h = h
all_left core (event ∷ rest) h = all_left (after core event) rest (event_left core event h)

pub settings_reached : (rows : List Row) (happened : List Event) → IsReached (after_all (opening rows) happened).settings
settings_reached rows happened = all_left (opening rows) happened at_first
