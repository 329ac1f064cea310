-- Events leave the box with the settings that the core has.
use Rattle.std.proofs.Common.{◌≡◌, ◌≢◌, ℕ, zero, suc, ◌+◌, ◌-◌, ◌==◌, ◌||◌, Bool, true, false, not, List, [], ◌∷◌, get_or, slice_set, codes, Option, Some, None, Result, Ok, Err, refl, sym, ap, subst, ◌∙◌, arith, if◌then◌else◌}
use Rattle.std.proofs.lemmas.Bool.{eqb-true, eqb-false}
use Rattle.pb_words.specs.declared.Refusal.{Refusal}
use Rattle.pb_words.specs.declared.Refusal.TheVariants as refusals
use Rattle.pb_words.specs.Refusing.{result_then, result_map}
use Rattle.pb_names.specs.declared.TheConstants.{ITSELF}
use Rattle.pb_fields.specs.declared.Slot.{Slot}
use Rattle.pb_fields.specs.declared.Attribute.{Attribute}
use Rattle.pb_fields.specs.declared.Attribute.TheVariants as attributes
use Rattle.pb_fields.specs.Types.{attributes_of, role_of}
use Rattle.pb_fields.specs.Catalogue.{catalogue}
use Rattle.pb_fields.specs.Places.{type_of}
use Rattle.pb_fields.specs.Slots.{IsSlot, type_at, attribute_at}
use Rattle.pb_grammar.specs.Grammar.{Said, Query, Assign, Table, Echo, Bad, command_of, after_front}
use Rattle.pb_stim.specs.declared.Row.{Row}
use Rattle.pb_model.specs.declared.Change.TheVariants as changes
use Rattle.pb_model.specs.Changes.{is_taken, is_taken_by, is_taken_role}
use Rattle.pb_model.specs.Tick.{Box}
use Rattle.pb_model.specs.Tick as model
use Rattle.pb_model.specs.Kept.{IsWhole}
use Rattle.pb_model.specs.Settings.{changed_box}
use Rattle.pb_model.specs.Staying.{IsKept, HasValue}
use Rattle.pb_model.proofs.StandLemmas.{has_it, still_has, has_after, has_put, has_written, has_armed, has_disarmed, has_first, whole_set, whole_after, whole_written, whole_armed, whole_disarmed, whole_first}
use Rattle.pb_config.specs.Settings.{Settings, raw_of, place, field_slot}
use Rattle.pb_config.specs.Defaults.{fresh}
use Rattle.pb_config.specs.Assigning.{is_assignable, is_assignable_by, raw_given, target, target_by, changes_box, assigned, after_by}
use Rattle.pb_config.specs.Reached.{IsReached, at_first, by_assignment}
use Rattle.pb_config.proofs.AssignedLemmas.{others_stay, value_here}
use Rattle.pb_config.proofs.PlaceLemmas.{one_place}
use Rattle.pb_config.proofs.KeptLemmas.{fresh_value}
use Rattle.pb_config.proofs.TextLemmas.{all_of, at_each, where_so}
use Rattle.pb_core.specs.declared.targets.Named.{Named}
use Rattle.pb_core.specs.declared.targets.Named.TheVariants as names
use Rattle.pb_core.specs.declared.events.Event.{Event}
use Rattle.pb_core.specs.declared.events.Event.TheVariants as events
use Rattle.pb_core.specs.Tick.{tick, driven}
use Rattle.pb_core.specs.Core.{CoreState, opening, ticked, ticks_of_core}
use Rattle.std.specs.List.{AllByRecursion}
use Rattle.pb_acquire.specs.Acquisitions.{room_of}
use Rattle.pb_config.specs.Capturing.{IsCapture, capture_slots, cleared, layout_of}
use Rattle.pb_config.proofs.ClearingLemmas.{all_captures}
use Rattle.pb_core.specs.Captures.{CaptureDeed, clears, arms, disarms, without_value, arming, disarming}
use Rattle.pb_core.specs.Naming.{named_by}
use Rattle.pb_changes.specs.declared.Group.{Group}
use Rattle.pb_core.specs.Assignments.{given, gives, captures, resets, reset_given, with_given, changed_by, named_given}
use Rattle.pb_core.specs.Writing.{Written, table_write}
use Rattle.pb_core.specs.Answer.{left_by, written_by, asked_of, said_after, done_by, with_mark, after, after_all}
use Rattle.pb_core.specs.Sessions.{is_open}
use Rattle.pb_core.specs.Holding.{HasSettings}
use Rattle.pb_core.proofs.ReachedLemmas.{IsSlotThere, IsFound, found_by}

-- Which slot an assignment changes.

-- RAW is of a time, whose field is taken
is_raw : Option Attribute → Bool
is_raw (Some attributes.TimeRaw) = true
is_raw _ = false

is_timed : ℕ → ℕ → ℕ → Bool
is_timed b f a =
    not (is_raw (if a == ITSELF then None else Some (get_or (attributes_of (type_of b f)) (a - 1) attributes.Info)))
    || is_taken_role (role_of (type_of b f))

all_timed : all_of is_timed ≡ true
unfolding is_timed is_raw catalogue
all_timed = refl

timed : (slot : Slot) → IsSlot slot → attribute_at slot ≡ Some attributes.TimeRaw → is_taken_role (role_of (type_at slot)) ≡ true
unfolding is_timed is_raw
timed slot s e = where_so _ _ (at_each is_timed all_timed slot s) (ap is_raw e)

field_there : (slot : Slot) → IsSlot slot → IsSlot (field_slot slot)
field_there slot s =
    record { in_blocks = s.in_blocks; from_one = s.from_one; in_count = s.in_count; in_fields = s.in_fields; in_attributes = omega arith }

-- the slot that is changed is in the catalogue, and the box takes it
taken_target : (o : Option Attribute) (slot : Slot) → IsSlot slot → attribute_at slot ≡ o → is_assignable_by (type_at slot) o ≡ true → changes_box o ≡ true →
    IsSlot (target_by o slot) × (is_taken (target_by o slot) ≡ true)
taken_target None slot s q a c = (s, subst (λ o. is_taken_by (type_at slot) o ≡ true) (sym q) a)
taken_target (Some attributes.TimeRaw) slot s q a c = (field_there slot s, timed slot s q)
taken_target (Some attributes.Delay) slot s q a c = (s, subst (λ o. is_taken_by (type_at slot) o ≡ true) (sym q) refl)
taken_target (Some attributes.TimeUnits) slot s q a c = absurd (cc)
taken_target (Some attributes.PosCapture) slot s q a c = absurd (cc)
taken_target (Some attributes.ExtCapture) slot s q a c = absurd (cc)
taken_target (Some attributes.Offset) slot s q a c = absurd (cc)
taken_target (Some attributes.Scale) slot s q a c = absurd (cc)
taken_target (Some attributes.Units) slot s q a c = absurd (cc)
taken_target (Some _) slot s q a c = absurd (cc)

-- a slot whose value concerns the streams alone is none that the box takes
unlike_kept : (o : Option Attribute) (slot u : Slot) → attribute_at slot ≡ o → is_assignable_by (type_at slot) o ≡ true → changes_box o ≡ false →
    IsKept u → u ≢ target_by o slot
unlike_kept (Some attributes.TimeUnits) slot u q a c k e =
    let t : is_taken_by (type_at slot) (Some attributes.TimeUnits) ≡ true = subst (λ o. is_taken_by (type_at slot) o ≡ true) q (subst (λ (v : Slot). is_taken v ≡ true) e k.taken) in cc
unlike_kept (Some attributes.PosCapture) slot u q a c k e =
    let t : is_taken_by (type_at slot) (Some attributes.PosCapture) ≡ true = subst (λ o. is_taken_by (type_at slot) o ≡ true) q (subst (λ (v : Slot). is_taken v ≡ true) e k.taken) in cc
unlike_kept (Some attributes.ExtCapture) slot u q a c k e =
    let t : is_taken_by (type_at slot) (Some attributes.ExtCapture) ≡ true = subst (λ o. is_taken_by (type_at slot) o ≡ true) q (subst (λ (v : Slot). is_taken v ≡ true) e k.taken) in cc
unlike_kept (Some attributes.Offset) slot u q a c k e =
    let t : is_taken_by (type_at slot) (Some attributes.Offset) ≡ true = subst (λ o. is_taken_by (type_at slot) o ≡ true) q (subst (λ (v : Slot). is_taken v ≡ true) e k.taken) in cc
unlike_kept (Some attributes.Scale) slot u q a c k e =
    let t : is_taken_by (type_at slot) (Some attributes.Scale) ≡ true = subst (λ o. is_taken_by (type_at slot) o ≡ true) q (subst (λ (v : Slot). is_taken v ≡ true) e k.taken) in cc
unlike_kept (Some attributes.Units) slot u q a c k e =
    let t : is_taken_by (type_at slot) (Some attributes.Units) ≡ true = subst (λ o. is_taken_by (type_at slot) o ≡ true) q (subst (λ (v : Slot). is_taken v ≡ true) e k.taken) in cc
unlike_kept None slot u q a c k e = absurd (cc)
unlike_kept (Some _) slot u q a c k e = absurd (cc)

-- What is kept over events.

record Holds (core : CoreState) : Type 0 where
  reached : IsReached core.settings
  whole : IsWhole core.box.stands.blocks core.box.stands.settings
  has : HasSettings core

record BoxHolds (settings : Settings) (box : Box) : Type 0 where
  whole : IsWhole box.stands.blocks box.stands.settings
  has : (u : Slot) → IsKept u → HasValue box u (raw_of settings u)

refused_test : (b : Bool) (x : Result ℕ Refusal) (raw : ℕ) → b ≡ false → (if not b then Err refusals.NotWriteable else x) ≡ Ok raw → ⊥
refused_test true x raw n h = cc
refused_test false x raw n h = cc

assignable : (settings : Settings) (slot : Slot) (text : List ℕ) (raw : ℕ) → raw_given settings slot text ≡ Ok raw → is_assignable slot ≡ true
unfolding raw_given
assignable settings slot text raw e = by (is_assignable slot) refl
  where
    by : (b : Bool) → is_assignable slot ≡ b → is_assignable slot ≡ true
    by true is = is
    by false is = absurd (refused_test (is_assignable slot) _ raw is e)

module _ (settings next : Settings) (t : Slot) (raw : ℕ) (box : Box) (s : IsSlot t)
    (here : raw_of next t ≡ raw)
    (others : (u : Slot) → IsSlot u → u ≢ t → raw_of next u ≡ raw_of settings u)
    (w : IsWhole box.stands.blocks box.stands.settings)
    (h : (u : Slot) → IsKept u → HasValue box u (raw_of settings u)) where
  -- the box takes the slot
  has_changed : is_taken t ≡ true → (u : Slot) → IsKept u → HasValue (changed_box box (changes.Set t raw)) u (raw_of next u)
  has_changed taken u k = by (place u == place t) refl
    where
      by : (c : Bool) → (place u == place t) ≡ c → HasValue (changed_box box (changes.Set t raw)) u (raw_of next u)
      by true e =
          let same : u ≡ t = one_place u t k.in_catalogue s (eqb-true (place u) (place t) e) in
          subst (λ v. HasValue (changed_box box (changes.Set t raw)) v (raw_of next v)) (sym same)
          (subst (HasValue (changed_box box (changes.Set t raw)) t) (sym here) (has_it box t raw w (subst IsKept same k)))
      by false e =
          let other : u ≢ t = λ same. eqb-false (place u) (place t) e (ap place same) in
          subst (HasValue (changed_box box (changes.Set t raw)) u) (sym (others u k.in_catalogue other))
          (still_has box t u raw (raw_of settings u) w s taken k (λ same. other (sym same)) (h u k))

  -- the box doesn't
  has_same : ((u : Slot) → IsKept u → u ≢ t) → (u : Slot) → IsKept u → HasValue box u (raw_of next u)
  has_same never u k = subst (HasValue box u) (sym (others u k.in_catalogue (never u k))) (h u k)

assigned_holds : (core : CoreState) (slot : Slot) (text : List ℕ) (raw : ℕ) → raw_given core.settings slot text ≡ Ok raw → IsSlot slot → Holds core →
    Holds (with_given core (given slot text raw))
assigned_holds core slot text raw e s h =
    record {
      reached = subst IsReached (ap (after_by core.settings slot text) e) (by_assignment core.settings slot text s h.reached);
      whole = whole_by (changes_box (attribute_at slot));
      has = by (changes_box (attribute_at slot)) refl;
    }
  where
    whole_by : (c : Bool) →
        IsWhole (changed_by (if c then Some (changes.Set (target slot) raw) else None) core.box).stands.blocks
        (changed_by (if c then Some (changes.Set (target slot) raw) else None) core.box).stands.settings
    whole_by true = whole_set core.box (target slot) raw h.whole
    whole_by false = h.whole

    by : (c : Bool) → changes_box (attribute_at slot) ≡ c → (u : Slot) → IsKept u →
        HasValue (changed_by (if c then Some (changes.Set (target slot) raw) else None) core.box) u (raw_of (assigned core.settings slot text raw) u)
    by true c =
        let can : is_assignable slot ≡ true = assignable core.settings slot text raw e in
        let t = taken_target (attribute_at slot) slot s refl can c in
        has_changed core.settings (assigned core.settings slot text raw) (target slot) raw core.box t.0
        (sym (ap (λ told. raw_of (after_by core.settings slot text told) (target slot)) e) ∙ value_here core.settings slot text raw h.reached s e)
        (λ u is ne. sym (ap (λ told. raw_of (after_by core.settings slot text told) u) e) ∙ others_stay core.settings slot u text s is ne)
        h.whole h.has t.1
    by false c =
        let can : is_assignable slot ≡ true = assignable core.settings slot text raw e in
        λ u k.
        let ne : u ≢ target slot = unlike_kept (attribute_at slot) slot u refl can c k in
        let same : raw_of (assigned core.settings slot text raw) u ≡ raw_of core.settings u =
        sym (ap (λ told. raw_of (after_by core.settings slot text told) u) e) ∙ others_stay core.settings slot u text s k.in_catalogue ne in
        subst (HasValue core.box u) (sym same) (h.has u k)

slot_holds : (core : CoreState) (id : ℕ) (slot : Slot) (text : List ℕ) (told : Result ℕ Refusal) → raw_given core.settings slot text ≡ told → IsSlot slot → Holds core →
    Holds (left_by core id (result_map gives (result_map (given slot text) told)))
slot_holds core id slot text (Err refusal) e s h = h
slot_holds core id slot text (Ok raw) e s h = assigned_holds core slot text raw e s h

with_settings : CoreState → Settings → CoreState
with_settings core settings = record core { settings = settings }

quiet_given : (c : Bool) (core : CoreState) (slot : Slot) → c ≡ false →
    changed_by (if c then Some (changes.Set (target slot) 0) else None) core.box ≡ core.box
quiet_given true core slot e = cc
quiet_given false core slot e = refl

-- No is assigned to one CAPTURE after the other
cleared_holds : (slots : List Slot) (core : CoreState) → AllByRecursion IsCapture slots → Holds core → Holds (with_settings core (cleared slots core.settings))
unfolding with_settings
cleared_holds [] core all h = h
cleared_holds (slot ∷ slots) core all h =
    let one : Holds (with_given core (given slot (codes "No") 0)) =
    assigned_holds core slot (codes "No") 0 (all.0.told core.settings) all.0.in_catalogue h in
    let same : BoxHolds (assigned core.settings slot (codes "No") 0) core.box =
    subst (BoxHolds (assigned core.settings slot (codes "No") 0))
    (quiet_given (changes_box (attribute_at slot)) core slot all.0.quiet) (record { whole = one.whole; has = one.has }) in
    cleared_holds slots (with_settings core (record { raws = slice_set core.settings.raws (place slot) 0; texts = core.settings.texts })) all.1
    (subst (λ s. Holds (with_settings core s)) (all.0.left core.settings) (record { reached = one.reached; whole = same.whole; has = same.has }))

deed_holds : (core : CoreState) (id : ℕ) (deed : Result CaptureDeed Refusal) → Holds core → Holds (left_by core id (result_map captures deed))
unfolding with_settings
deed_holds core id (Ok clears) h =
    let cleared : Holds (with_settings core (cleared capture_slots core.settings)) = cleared_holds capture_slots core all_captures h in
    record { reached = cleared.reached; whole = cleared.whole; has = cleared.has }
deed_holds core id (Ok (arms layout)) h =
    record {
      reached = h.reached;
      whole = whole_armed core.box (room_of layout) h.whole;
      has = λ u k. has_armed core.box u (raw_of core.settings u) (h.has u k) h.whole (room_of layout);
    }
deed_holds core id (Ok disarms) h =
    record {
      reached = h.reached;
      whole = whole_disarmed core.box h.whole;
      has = λ u k. has_disarmed core.box u (raw_of core.settings u) (h.has u k) h.whole;
    }
deed_holds core id (Err refusal) h = h

reset_holds : (core : CoreState) (id : ℕ) (group : Option Group) (r : Result Bool Refusal) → Holds core →
    Holds (left_by core id (result_map (resets group) r))
reset_holds core id group (Ok all) h = record { reached = h.reached; whole = h.whole; has = h.has }
reset_holds core id group (Err refusal) h = h

asked_holds : (core : CoreState) (id : ℕ) (r : Result Named Refusal) → Holds core → Holds (asked_of core id r)
asked_holds core id (Ok (names.Changes group)) h = record { reached = h.reached; whole = h.whole; has = h.has }
asked_holds core id (Err refusal) h = h
asked_holds core id (Ok _) h = h

left_holds : (core : CoreState) (id : ℕ) (text : List ℕ) (r : Result Named Refusal) → IsFound r → Holds core →
    Holds (left_by core id (result_then r (named_given core.settings core.acquisitions text)))
unfolding IsFound IsSlotThere
left_holds core id text (Err refusal) f h = h
left_holds core id text (Ok (names.Value slot)) f h = slot_holds core id slot text (raw_given core.settings slot text) refl f h
left_holds core id text (Ok (names.Changes group)) f h = reset_holds core id group (reset_given text) h
left_holds core id text (Ok names.Captures) f h = deed_holds core id (without_value text (Ok clears)) h
left_holds core id text (Ok names.Arming) f h = deed_holds core id (without_value text (arming core.acquisitions (layout_of core.settings))) h
left_holds core id text (Ok names.Disarming) f h = deed_holds core id (without_value text (disarming core.acquisitions)) h
left_holds core id text (Ok named) f h = h

table_holds : (core : CoreState) (r : Result Written Refusal) → Holds core → Holds (written_by core r)
table_holds core (Ok new) h =
    record {
      reached = h.reached;
      whole = whole_written core.box new.slot.instance new.words h.whole;
      has = λ u k. has_written core.box u (raw_of core.settings u) (h.has u k) h.whole new.slot.instance new.words;
    }
table_holds core (Err refusal) h = h

said_holds : (core : CoreState) (id : ℕ) (said : Said) → Holds core → Holds (said_after core id said)
unfolding named_by
said_holds core id (Query target) h = asked_holds core id (named_by target) h
said_holds core id (Assign target value) h = left_holds core id value (named_by target) (found_by target (after_front (codes "*") target)) h
said_holds core id (Table target append base64 body) h = table_holds core (table_write core.box.stands target append base64 body) h
said_holds core id (Echo text) h = h
said_holds core id (Bad refusal) h = h

-- Ticks.

tick_holds : (settings : Settings) (rows : List Row) (box : Box) → BoxHolds settings box → BoxHolds settings (tick rows box)
tick_holds settings rows box h =
    record {
      whole = whole_after box h.whole;
      has = λ u k. has_put (model.tick box) u (raw_of settings u) (has_after box u (raw_of settings u) (h.has u k) k h.whole) (driven rows (box.stands.tick + 1) (model.tick box).stands.bus);
    }

ticks_hold : (n : ℕ) (core : CoreState) → Holds core → Holds (ticks_of_core n core)
ticks_hold zero core h = h
ticks_hold (suc n) core h =
    let b : BoxHolds core.settings (tick core.rows core.box) = tick_holds core.settings core.rows core.box (record { whole = h.whole; has = h.has }) in
    ticks_hold n (ticked core) (record { reached = h.reached; whole = b.whole; has = b.has })

line_holds : (is_there : Bool) (core : CoreState) (id : ℕ) (said : Said) → Holds core → Holds (if is_there then said_after core id said else core)
line_holds true core id said h = said_holds core id said h
line_holds false core id said h = h

does_hold : (core : CoreState) (event : Event) → Holds core → Holds (done_by core event)
does_hold core (events.OpenControl id) h = record { reached = h.reached; whole = h.whole; has = h.has }
does_hold core (events.Line id text) h = line_holds (is_open core.sessions id) core id (command_of text) h
does_hold core (events.Bad id refusal) h = h
does_hold core (events.CloseControl id) h = record { reached = h.reached; whole = h.whole; has = h.has }
does_hold core (events.OpenData id options) h = record { reached = h.reached; whole = h.whole; has = h.has }
does_hold core (events.Take id) h = record { reached = h.reached; whole = h.whole; has = h.has }
does_hold core (events.CloseData id) h = record { reached = h.reached; whole = h.whole; has = h.has }
does_hold core (events.Advance to most) h = ticks_hold (to - core.box.stands.tick) core h

-- the mark
standing_holds : (event : Event) (core : CoreState) → Holds core → Holds (with_mark event core)
standing_holds (events.Advance to most) core h = h
standing_holds event core h = record { reached = h.reached; whole = h.whole; has = h.has }

event_holds : (core : CoreState) (event : Event) → Holds core → Holds (after core event)
event_holds core event h = standing_holds event (done_by core event) (does_hold core event h)

all_hold : (core : CoreState) (happened : List Event) → Holds core → Holds (after_all core happened)
all_hold core [] h = h
all_hold core (event ∷ rest) h = all_hold (after core event) rest (event_holds core event h)

opening_holds : (rows : List Row) → Holds (opening rows)
opening_holds rows =
    record {
      reached = at_first;
      whole = whole_first;
      has = λ u k.
          has_put model.opening_box u (raw_of fresh u)
          (subst (HasValue model.opening_box u) (sym (fresh_value u k.in_catalogue)) (has_first u k))
          (driven rows 0 model.opening_box.stands.bus);
    }

pub settings_hold : (rows : List Row) (happened : List Event) → HasSettings (after_all (opening rows) happened)
settings_hold rows happened = (all_hold (opening rows) happened (opening_holds rows)).has
