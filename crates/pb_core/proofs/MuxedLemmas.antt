-- Events leave the bit inputs as the settings have them.
use Rattle.std.proofs.Common.{◌≡◌, ◌≢◌, ℕ, zero, suc, ◌-◌, ◌==◌, ◌&&◌, ◌||◌, Bool, true, false, not, List, [], ◌∷◌, length, get_or, slice_set, codes, Option, Some, None, Result, Ok, Err, refl, sym, ap, subst, ◌∙◌, arith, if◌then◌else◌}
use Rattle.std.proofs.lemmas.Bool.{eqb-true}
use Rattle.pb_words.specs.declared.Refusal.{Refusal}
use Rattle.pb_words.specs.declared.Refusal.TheVariants as refusals
use Rattle.pb_words.specs.Refusing.{result_then, result_map}
use Rattle.pb_names.specs.declared.TheConstants.{ITSELF}
use Rattle.pb_names.specs.declared.bit_mux.TheConstants as bit_mux
use Rattle.pb_fields.specs.declared.Slot.{Slot}
use Rattle.pb_fields.specs.declared.Attribute.{Attribute}
use Rattle.pb_fields.specs.declared.Attribute.TheVariants as attributes
use Rattle.pb_fields.specs.Types.{attributes_of}
use Rattle.pb_fields.specs.Catalogue.{catalogue}
use Rattle.pb_fields.specs.Places.{type_of}
use Rattle.pb_fields.specs.Slots.{IsSlot, type_at, attributes_at, attribute_at}
use Rattle.pb_fields.proofs.RowLemmas.{and_left, and_right}
use Rattle.pb_grammar.specs.Grammar.{Said, Query, Assign, Table, Echo, Bad, command_of, after_front}
use Rattle.pb_stim.specs.declared.Row.{Row}
use Rattle.pb_buses.specs.Delay.{BitInput}
use Rattle.pb_model.specs.declared.Change.{Change}
use Rattle.pb_model.specs.declared.Change.TheVariants as changes
use Rattle.pb_model.specs.Tick.{Box, is_bit_mux}
use Rattle.pb_model.specs.Settings.{blocks_with}
use Rattle.pb_config.specs.Settings.{Settings, raw_of, place}
use Rattle.pb_config.specs.Assigning.{is_assignable, is_assignable_by, raw_given, target, target_by, changes_box, assigned, after_by}
use Rattle.pb_config.specs.Reached.{IsReached, at_first, by_assignment}
use Rattle.pb_config.proofs.AssignedLemmas.{others_stay, value_here}
use Rattle.pb_config.proofs.TextLemmas.{all_of, at_each, where_so}
use Rattle.pb_core.specs.declared.targets.Named.{Named}
use Rattle.pb_core.specs.declared.targets.Named.TheVariants as names
use Rattle.pb_core.specs.declared.events.Event.{Event}
use Rattle.pb_core.specs.declared.events.Event.TheVariants as events
use Rattle.pb_core.specs.Core.{CoreState, opening, ticked, ticks_of_core}
use Rattle.std.specs.List.{AllByRecursion}
use Rattle.pb_acquire.specs.Acquisitions.{room_of}
use Rattle.pb_model.specs.Units.{armed, disarmed}
use Rattle.pb_config.specs.Capturing.{IsCapture, capture_slots, cleared, layout_of}
use Rattle.pb_config.proofs.ClearingLemmas.{all_captures}
use Rattle.pb_core.specs.Captures.{CaptureDeed, clears, arms, disarms, without_value, arming, disarming}
use Rattle.pb_core.specs.Naming.{named_by}
use Rattle.pb_changes.specs.declared.Group.{Group}
use Rattle.pb_core.specs.Assignments.{given, gives, captures, resets, reset_given, with_given, changed_by, named_given}
use Rattle.pb_core.specs.Writing.{Written, table_write}
use Rattle.pb_core.specs.Answer.{left_by, asked_of, said_after, done_by, with_mark, after, after_all, written_by}
use Rattle.pb_core.specs.Sessions.{is_open}
use Rattle.pb_core.proofs.TableLemmas.{holds_table, holds_capture}
use Rattle.pb_core.specs.Muxes.{IsMux, delay_of, MuxesAreSet}
use Rattle.pb_core.proofs.MuxLemmas.{Holds, holds_first, holds_tick, holds_delayed, holds_own, holds_same, input_is, mux_type}
use Rattle.pb_core.proofs.ReachedLemmas.{IsSlotThere, IsFound, found_by}

-- the attribute of a mux, and of its delay
mux_attribute : (u : Slot) → IsMux u → attribute_at u ≡ None
mux_attribute u m = rw m.itself refl

delay_attribute : (u : Slot) → IsMux u → attribute_at (delay_of u) ≡ Some attributes.Delay
delay_attribute u m = rw m.mux refl

-- a slot that is a DELAY is that of a mux
is_delay : Option Attribute → Bool
is_delay (Some attributes.Delay) = true
is_delay _ = false

is_placed : ℕ → ℕ → ℕ → Bool
is_placed b f a =
    not (is_delay (if a == ITSELF then None else Some (get_or (attributes_of (type_of b f)) (a - 1) attributes.Info)))
    || (is_bit_mux (type_of b f) && a == bit_mux.DELAY)

all_placed : all_of is_placed ≡ true
unfolding is_placed is_delay catalogue
all_placed = refl

placed : (slot : Slot) → IsSlot slot → attribute_at slot ≡ Some attributes.Delay → (is_bit_mux (type_at slot) && slot.attr == bit_mux.DELAY) ≡ true
unfolding is_placed is_delay
placed slot s e = where_so _ _ (at_each is_placed all_placed slot s) (ap is_delay e)

abbrev bare_of : Slot → Slot
bare_of slot = record { block = slot.block; instance = slot.instance; field = slot.field; attr = ITSELF }

-- What an assignment leaves.

refused_test : (b : Bool) (x : Result ℕ Refusal) (raw : ℕ) → b ≡ false → (if not b then Err refusals.NotWriteable else x) ≡ Ok raw → ⊥
refused_test true x raw n h = cc
refused_test false x raw n h = cc

refused_by : (settings : Settings) (slot : Slot) (text : List ℕ) (raw : ℕ) → is_assignable slot ≡ false → raw_given settings slot text ≡ Ok raw → ⊥
unfolding raw_given
refused_by settings slot text raw n told = refused_test (is_assignable slot) _ raw n told

module _ (settings : Settings) (slot : Slot) (text : List ℕ) (raw : ℕ) (box : Box) (r : IsReached settings) (s : IsSlot slot)
    (e : raw_given settings slot text ≡ Ok raw) (h : Holds settings box.stands.blocks) where
  here : raw_of (assigned settings slot text raw) (target slot) ≡ raw
  here = sym (ap (λ told. raw_of (after_by settings slot text told) (target slot)) e) ∙ value_here settings slot text raw r s e

  others : (u : Slot) → IsSlot u → u ≢ target slot → raw_of (assigned settings slot text raw) u ≡ raw_of settings u
  others u is ne = sym (ap (λ told. raw_of (after_by settings slot text told) u) e) ∙ others_stay settings slot u text s is ne

  assignable : is_assignable slot ≡ true
  assignable = by (is_assignable slot) refl
    where
      by : (b : Bool) → is_assignable slot ≡ b → is_assignable slot ≡ true
      by true is = is
      by false is = absurd (refused_by settings slot text raw is e)

itself_by : (b : Bool) (slot : Slot) (a : Attribute) → (slot.attr == ITSELF) ≡ b → (if b then None else Some a) ≡ None → slot.attr ≡ ITSELF
itself_by true slot a e h = eqb-true slot.attr ITSELF e
itself_by false slot a e h = cc

itself_of : (slot : Slot) → attribute_at slot ≡ None → slot.attr ≡ ITSELF
itself_of slot h = itself_by (slot.attr == ITSELF) slot (get_or (attributes_at slot) (slot.attr - 1) attributes.Info) refl h

bare_slot : (slot : Slot) → IsSlot slot → IsSlot (bare_of slot)
bare_slot slot s =
    record { in_blocks = s.in_blocks; from_one = s.from_one; in_count = s.in_count; in_fields = s.in_fields; in_attributes = omega arith }

abbrev change_by : Option Attribute → Slot → ℕ → Option Change
change_by o slot raw = if changes_box o then Some (changes.Set (target_by o slot) raw) else None

unlike_mux : (slot : Slot) (a : Attribute) → attribute_at slot ≡ Some a → (Some attributes.Delay ≡ Some a → ⊥) → (u : Slot) → IsMux u → (u ≢ slot) × (delay_of u ≢ slot)
unlike_mux slot a q ne u m = (
  λ x. none_some (sym (mux_attribute u m) ∙ (ap attribute_at x ∙ q)),
  λ x. ne (sym (delay_attribute u m) ∙ (ap attribute_at x ∙ q)),
)
  where
    none_some : None ≡ Some a → ⊥
    none_some z = cc

left_by_attribute : (o : Option Attribute) (settings next : Settings) (slot : Slot) (raw : ℕ) (box : Box) → IsSlot slot → attribute_at slot ≡ o →
    is_assignable_by (type_at slot) o ≡ true →
    raw_of next (target_by o slot) ≡ raw → ((u : Slot) → IsSlot u → u ≢ target_by o slot → raw_of next u ≡ raw_of settings u) →
    Holds settings box.stands.blocks → Holds next (changed_by (change_by o slot raw) box).stands.blocks
left_by_attribute None settings next slot raw box s q k here others h =
    holds_own settings next slot raw box.stands.blocks s here others h (itself_of slot q)
left_by_attribute (Some attributes.TimeRaw) settings next slot raw box s q k here others h =
    holds_own settings next (bare_of slot) raw box.stands.blocks (bare_slot slot s) here others h refl
left_by_attribute (Some attributes.Delay) settings next slot raw box s q k here others h =
    let both = placed slot s q in
    let m : IsMux (bare_of slot) = record { in_catalogue = bare_slot slot s; mux = mux_type (type_at slot) (and_left _ _ both); itself = refl } in
    let same : slot ≡ delay_of (bare_of slot) =
    ap (λ a. record { block = slot.block; instance = slot.instance; field = slot.field; attr = a }) (eqb-true _ _ (and_right _ _ both)) in
    subst (λ x. Holds next (blocks_with x raw box.stands.blocks)) (sym same)
    (holds_delayed settings next (bare_of slot) raw box.stands.blocks m (subst (λ x. raw_of next x ≡ raw) same here)
    (subst (λ (x : Slot). (u : Slot) → IsSlot u → u ≢ x → raw_of next u ≡ raw_of settings u) same others) h)
left_by_attribute (Some attributes.TimeUnits) settings next slot raw box s q k here others h =
    holds_same settings next slot raw box.stands.blocks s here others h (unlike_mux slot attributes.TimeUnits q (λ x. cc))
left_by_attribute (Some attributes.PosCapture) settings next slot raw box s q k here others h =
    holds_same settings next slot raw box.stands.blocks s here others h (unlike_mux slot attributes.PosCapture q (λ x. cc))
left_by_attribute (Some attributes.ExtCapture) settings next slot raw box s q k here others h =
    holds_same settings next slot raw box.stands.blocks s here others h (unlike_mux slot attributes.ExtCapture q (λ x. cc))
left_by_attribute (Some attributes.Offset) settings next slot raw box s q k here others h =
    holds_same settings next slot raw box.stands.blocks s here others h (unlike_mux slot attributes.Offset q (λ x. cc))
left_by_attribute (Some attributes.Scale) settings next slot raw box s q k here others h =
    holds_same settings next slot raw box.stands.blocks s here others h (unlike_mux slot attributes.Scale q (λ x. cc))
left_by_attribute (Some attributes.Units) settings next slot raw box s q k here others h =
    holds_same settings next slot raw box.stands.blocks s here others h (unlike_mux slot attributes.Units q (λ x. cc))
left_by_attribute (Some _) settings next slot raw box s q k here others h = absurd (cc)

-- What events leave.

record Stands (core : CoreState) : Type 0 where
  reached : IsReached core.settings
  held : Holds core.settings core.box.stands.blocks

record BoxStands (settings : Settings) (box : Box) : Type 0 where
  reached : IsReached settings
  held : Holds settings box.stands.blocks

slot_left : (core : CoreState) (id : ℕ) (slot : Slot) (text : List ℕ) (told : Result ℕ Refusal) → raw_given core.settings slot text ≡ told → IsSlot slot → Stands core →
    Stands (left_by core id (result_map gives (result_map (given slot text) told)))
slot_left core id slot text (Err refusal) e s h = h
slot_left core id slot text (Ok raw) e s h =
    record {
      reached = subst IsReached (ap (after_by core.settings slot text) e) (by_assignment core.settings slot text s h.reached);
      held =
          left_by_attribute (attribute_at slot) core.settings (assigned core.settings slot text raw) slot raw core.box s refl
          (assignable core.settings slot text raw core.box h.reached s e h.held) (here core.settings slot text raw core.box h.reached s e h.held)
          (others core.settings slot text raw core.box h.reached s e h.held) h.held;
    }

with_settings : CoreState → Settings → CoreState
with_settings core settings = record core { settings = settings }

quiet_given : (c : Bool) (core : CoreState) (slot : Slot) → c ≡ false →
    changed_by (if c then Some (changes.Set (target slot) 0) else None) core.box ≡ core.box
quiet_given true core slot e = cc
quiet_given false core slot e = refl

-- No is assigned to one CAPTURE after the other
cleared_left : (slots : List Slot) (core : CoreState) → AllByRecursion IsCapture slots → Stands core → Stands (with_settings core (cleared slots core.settings))
unfolding with_settings
cleared_left [] core all h = h
cleared_left (slot ∷ slots) core all h =
    let one : Stands (with_given core (given slot (codes "No") 0)) =
    slot_left core 0 slot (codes "No") (Ok 0) (all.0.told core.settings) all.0.in_catalogue h in
    let same : BoxStands (assigned core.settings slot (codes "No") 0) core.box =
    subst (BoxStands (assigned core.settings slot (codes "No") 0))
    (quiet_given (changes_box (attribute_at slot)) core slot all.0.quiet) (record { reached = one.reached; held = one.held }) in
    cleared_left slots (with_settings core (record { raws = slice_set core.settings.raws (place slot) 0; texts = core.settings.texts })) all.1
    (subst (λ s. Stands (with_settings core s)) (all.0.left core.settings) (record { reached = same.reached; held = same.held }))

deed_left : (core : CoreState) (id : ℕ) (deed : Result CaptureDeed Refusal) → Stands core → Stands (left_by core id (result_map captures deed))
unfolding with_settings
deed_left core id (Ok clears) h =
    let cleared : Stands (with_settings core (cleared capture_slots core.settings)) = cleared_left capture_slots core all_captures h in
    record { reached = cleared.reached; held = cleared.held }
deed_left core id (Ok (arms layout)) h =
    record { reached = h.reached; held = holds_capture core.settings core.box.stands.blocks (armed (room_of layout)) h.held }
deed_left core id (Ok disarms) h =
    record { reached = h.reached; held = holds_capture core.settings core.box.stands.blocks disarmed h.held }
deed_left core id (Err refusal) h = h

reset_left : (core : CoreState) (id : ℕ) (group : Option Group) (r : Result Bool Refusal) → Stands core →
    Stands (left_by core id (result_map (resets group) r))
reset_left core id group (Ok all) h = record { reached = h.reached; held = h.held }
reset_left core id group (Err refusal) h = h

asked_left : (core : CoreState) (id : ℕ) (r : Result Named Refusal) → Stands core → Stands (asked_of core id r)
asked_left core id (Ok (names.Changes group)) h = record { reached = h.reached; held = h.held }
asked_left core id (Err refusal) h = h
asked_left core id (Ok _) h = h

left : (core : CoreState) (id : ℕ) (text : List ℕ) (r : Result Named Refusal) → IsFound r → Stands core →
    Stands (left_by core id (result_then r (named_given core.settings core.acquisitions text)))
unfolding IsFound IsSlotThere
left core id text (Err refusal) f h = h
left core id text (Ok (names.Value slot)) f h = slot_left core id slot text (raw_given core.settings slot text) refl f h
left core id text (Ok (names.Changes group)) f h = reset_left core id group (reset_given text) h
left core id text (Ok names.Captures) f h = deed_left core id (without_value text (Ok clears)) h
left core id text (Ok names.Arming) f h = deed_left core id (without_value text (arming core.acquisitions (layout_of core.settings))) h
left core id text (Ok names.Disarming) f h = deed_left core id (without_value text (disarming core.acquisitions)) h
left core id text (Ok named) f h = h

table_left : (core : CoreState) (r : Result Written Refusal) → Stands core → Stands (written_by core r)
table_left core (Ok new) h =
    record { reached = h.reached; held = holds_table core.settings core.box.stands.blocks new.slot.instance new.words h.held }
table_left core (Err refusal) h = h

said_left : (core : CoreState) (id : ℕ) (said : Said) → Stands core → Stands (said_after core id said)
unfolding named_by
said_left core id (Query target) h = asked_left core id (named_by target) h
said_left core id (Assign target value) h = left core id value (named_by target) (found_by target (after_front (codes "*") target)) h
said_left core id (Table target append base64 body) h = table_left core (table_write core.box.stands target append base64 body) h
said_left core id (Echo text) h = h
said_left core id (Bad refusal) h = h

ticks_left : (n : ℕ) (core : CoreState) → Stands core → Stands (ticks_of_core n core)
ticks_left zero core h = h
ticks_left (suc n) core h =
    ticks_left n (ticked core)
    (record { reached = h.reached; held = holds_tick core.box.stands.bus core.box.stands.tick core.settings core.box.stands.blocks h.held })

line_left : (is_there : Bool) (core : CoreState) (id : ℕ) (said : Said) → Stands core → Stands (if is_there then said_after core id said else core)
line_left true core id said h = said_left core id said h
line_left false core id said h = h

done_left : (core : CoreState) (event : Event) → Stands core → Stands (done_by core event)
done_left core (events.OpenControl id) h = record { reached = h.reached; held = h.held }
done_left core (events.Line id text) h = line_left (is_open core.sessions id) core id (command_of text) h
done_left core (events.Bad id refusal) h = h
done_left core (events.CloseControl id) h = record { reached = h.reached; held = h.held }
done_left core (events.OpenData id options) h = record { reached = h.reached; held = h.held }
done_left core (events.Take id) h = record { reached = h.reached; held = h.held }
done_left core (events.CloseData id) h = record { reached = h.reached; held = h.held }
done_left core (events.Advance to most) h = ticks_left (to - core.box.stands.tick) core h

-- the mark
standing_left : (event : Event) (core : CoreState) → Stands core → Stands (with_mark event core)
standing_left (events.Advance to most) core h = h
standing_left event core h = record { reached = h.reached; held = h.held }

event_left : (core : CoreState) (event : Event) → Stands core → Stands (after core event)
event_left core event h = standing_left event (done_by core event) (done_left core event h)

all_left : (core : CoreState) (happened : List Event) → Stands core → Stands (after_all core happened)
all_left core [] h = h
all_left core (event ∷ rest) h = all_left (after core event) rest (event_left core event h)

are_set : (core : CoreState) → Stands core → MuxesAreSet core
are_set core h =
    record {
      selections = λ slot m. ap (λ (x : BitInput). x.select) (input_is core.box.stands.blocks slot h.held.many m) ∙ h.held.selections slot m;
      delays = λ slot m. ap (λ (x : BitInput). x.delay) (input_is core.box.stands.blocks slot h.held.many m) ∙ h.held.delays slot m;
    }

pub muxes_set : (rows : List Row) (happened : List Event) → MuxesAreSet (after_all (opening rows) happened)
muxes_set rows happened =
    are_set (after_all (opening rows) happened) (all_left (opening rows) happened (record { reached = at_first; held = holds_first }))

-- so there are 35 blocks, whatever happened
pub blocks_are_35 : (rows : List Row) (happened : List Event) → length (after_all (opening rows) happened).box.stands.blocks ≡ 35
blocks_are_35 rows happened = (all_left (opening rows) happened (record { reached = at_first; held = holds_first })).held.many
