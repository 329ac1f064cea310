-- What an assignment to a slot is answered and leaves, and the lines of what is captured.
use Rattle.std.proofs.Common.{◌≡◌, ℕ, ◌+◌, ◌<◌, Bool, List, [], ◌++◌, length, map, slice_index_or, Option, Result, Ok, Err, IfOk, OnOk, OnErr, refl, sym, ap, subst, ◌∙◌}
use Rattle.std.proofs.lemmas.List.{get_or-map, length-map}
use Rattle.pb_words.specs.declared.Refusal.{Refusal}
use Rattle.pb_words.specs.Refusing.{result_then, result_map}
use Rattle.pb_fields.specs.declared.Slot.{Slot}
use Rattle.pb_fields.specs.Slots.{IsSlot}
use Rattle.pb_pcap.specs.declared.Field.{Field}
use Rattle.pb_replies.specs.Replies.{listed}
use Rattle.pb_replies.proofs.ListedLemmas.{after, one_more}
use Rattle.pb_core.specs.declared.events.Answer.{Answer}
use Rattle.pb_core.specs.declared.targets.Named.{Named}
use Rattle.pb_core.specs.declared.targets.Named.TheVariants as names
use Rattle.pb_changes.specs.declared.Group.{Group}
use Rattle.pb_core.specs.Core.{CoreState}
use Rattle.pb_core.specs.Naming.{named_by}
use Rattle.pb_config.specs.Capturing.{layout_of}
use Rattle.pb_core.specs.Captures.{CaptureDeed, without_value, arming, capture_line}
use Rattle.pb_core.specs.Assignments.{Given, gives, captures, resets, reset_given, slot_given, named_given, assignment}
use Rattle.pb_core.specs.Answer.{done, left_by}
use Rattle.pb_core.specs.Kept.{KeptCore, Agrees, Stands}
use Rattle.pb_core.specs.Helpers.{IsThere}

-- What an assignment to what is named is answered and leaves.

given_done : (r : Result Given Refusal) → done r ≡ done (result_map gives r)
given_done (Ok new) = refl
given_done (Err refusal) = refl

pub captured_done : (r : Result CaptureDeed Refusal) → done r ≡ done (result_map captures r)
captured_done (Ok new) = refl
captured_done (Err refusal) = refl

reset_done : (group : Option Group) (r : Result Bool Refusal) → done r ≡ done (result_map (resets group) r)
reset_done group (Ok all) = refl
reset_done group (Err refusal) = refl

-- the answer to what is named is that to the target
pub named_done : (core : CoreState) (target value : List ℕ) (named : Named) (told : Answer) → named_by target ≡ Ok named →
    told ≡ done (named_given core.settings core.acquisitions value named) → told ≡ done (assignment core.settings core.acquisitions target value)
named_done core target value named told e h =
    h ∙ ap (λ r. done (result_then r (named_given core.settings core.acquisitions value))) (sym e)

-- and so is what is left
pub named_left : (core : CoreState) (next : KeptCore) (id : ℕ) (target value : List ℕ) (named : Named) → named_by target ≡ Ok named →
    Stands next (left_by core id (named_given core.settings core.acquisitions value named)) →
    Stands next (left_by core id (assignment core.settings core.acquisitions target value))
named_left core next id target value named e h =
    subst (λ r. Stands next (left_by core id (result_then r (named_given core.settings core.acquisitions value)))) (sym e) h

pub value_done : (kept : KeptCore) (core : CoreState) (target value : List ℕ) (slot : Slot) (told : Answer) → Agrees kept core →
    named_by target ≡ Ok (names.Value slot) → told ≡ done (slot_given kept.config.settings value slot) →
    told ≡ done (assignment core.settings core.acquisitions target value)
value_done kept core target value slot told h e d =
    named_done core target value (names.Value slot) told e
    (d ∙ (ap (λ s. done (slot_given s value slot)) h.settings ∙ given_done (slot_given core.settings value slot)))

pub captures_done : (core : CoreState) (target value : List ℕ) (named : Named) (told : Answer) (r : Result CaptureDeed Refusal) →
    named_by target ≡ Ok named → named_given core.settings core.acquisitions value named ≡ result_map captures r → told ≡ done r →
    told ≡ done (assignment core.settings core.acquisitions target value)
captures_done core target value named told r e is d = named_done core target value named told e (d ∙ (captured_done r ∙ ap done (sym is)))

pub resets_done : (core : CoreState) (target value : List ℕ) (group : Option Group) (told : Answer) → named_by target ≡ Ok (names.Changes group) →
    told ≡ done (reset_given value) → told ≡ done (assignment core.settings core.acquisitions target value)
resets_done core target value group told e d =
    named_done core target value (names.Changes group) told e (d ∙ reset_done group (reset_given value))

-- arming, by what is kept
pub arming_is : (kept : KeptCore) (core : CoreState) (value : List ℕ) → Agrees kept core →
    named_given core.settings core.acquisitions value names.Arming
    ≡ result_map captures (without_value value (arming core.acquisitions (layout_of kept.config.settings)))
arming_is kept core value h = ap (λ s. result_map captures (without_value value (arming core.acquisitions (layout_of s)))) (sym h.settings)

pub armed_done : (kept : KeptCore) (core : CoreState) (target value : List ℕ) → Agrees kept core → named_by target ≡ Ok names.Arming →
    done (without_value value (arming core.acquisitions (layout_of kept.config.settings))) ≡ done (assignment core.settings core.acquisitions target value)
armed_done kept core target value h e =
    captures_done core target value names.Arming _ (without_value value (arming core.acquisitions (layout_of kept.config.settings))) e (arming_is kept core value h) refl

-- what follows from an Ok, or from an error

pub where_ok : {X Y : Type 0} (r : Result X Y) (A B : Type 0) → (A → B) → OnOk r A → OnOk r B
where_ok (Ok x) A B f h = f h
where_ok (Err y) A B f h = tt

pub where_err : {X Y : Type 0} (r : Result X Y) (A B : Type 0) → (A → B) → OnErr r A → OnErr r B
where_err (Ok x) A B f h = tt
where_err (Err y) A B f h = f h

-- the slot that is named is in the catalogue
pub slot_there : (r : Result Named Refusal) (slot : Slot) → r ≡ Ok (names.Value slot) → IfOk r IsThere → IsSlot slot
slot_there r slot e h = subst (λ x. IfOk x IsThere) e h

pub always_ok : {X Y : Type 0} (r : Result X Y) (B : Type 0) → B → OnOk r B
always_ok (Ok x) B b = b
always_ok (Err y) B b = tt

pub always_err : {X Y : Type 0} (r : Result X Y) (B : Type 0) → B → OnErr r B
always_err (Ok x) B b = tt
always_err (Err y) B b = b

-- the line of one more field
pub one_field : (layout : List Field) (i : ℕ) (text next : List ℕ) (field : Field) → i < length layout →
    ((other : Field) → field ≡ slice_index_or layout i other) → text ≡ after [] (map capture_line layout) i →
    next ≡ text ++ listed (capture_line field) → next ≡ after [] (map capture_line layout) (i + 1)
one_field layout i text next field within here so_far e =
    e
    ∙ one_more [] (map capture_line layout) i text (capture_line field) (subst (λ n. i < n) (sym (length-map layout capture_line)) within)
    (ap capture_line (here field) ∙ sym (get_or-map capture_line layout i field [] within)) so_far
