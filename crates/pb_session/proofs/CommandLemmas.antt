-- What a command does to the acquisitions: an assignment arms only where arming isn't refused, and a query leaves them.
use Rattle.std.proofs.Common.{◌≡◌, ◌==◌, [], ℕ, Bool, true, false, List, length, Option, Some, None, is_some, Result, Ok, Err, cond, refl, codes}
use Rattle.std.specs.Option.{option_map_or}
use Rattle.pb_words.specs.declared.Refusal.{Refusal}
use Rattle.pb_words.specs.declared.Refusal.TheVariants as refusals
use Rattle.pb_words.specs.Refusing.{result_then, result_map}
use Rattle.pb_pcap.specs.declared.Field.{Field}
use Rattle.pb_fields.specs.Finding.{found_of, block_found}
use Rattle.pb_acquire.specs.Acquisitions.{AllAcquisitions, arm_refusal}
use Rattle.pb_config.specs.Capturing.{layout_of}
use Rattle.pb_config.specs.Settings.{Settings}
use Rattle.pb_changes.specs.declared.Group.{Group}
use Rattle.pb_changes.specs.declared.Group.TheVariants as groups
use Rattle.pb_grammar.specs.Grammar.{after_front, before_end}
use Rattle.pb_core.specs.Core.{CoreState}
use Rattle.pb_core.specs.Captures.{CaptureDeed, clears, arms, disarms, without_value, armed_or_refused, arming, disarming}
use Rattle.pb_core.specs.Assignments.{Deed, Given, gives, captures, resets, slot_given, reset_given, named_given, assignment}
use Rattle.pb_core.specs.Naming.{is_same, has_point, labels_named, capture_named, changes_named, star_named, listing_named, block_named, named_by}
use Rattle.pb_core.specs.Answer.{asked_of}

-- where a deed arms a layout, that isn't refused
abbrev pub ArmsRightly : AllAcquisitions → Result Deed Refusal → Type 0
ArmsRightly all (Ok (captures (arms layout))) = arm_refusal all layout ≡ None
ArmsRightly all deed = Unit {0}

-- A target names nothing, or something to which an assignment does this and of which a query leaves that core.
unfoldable pub IsFine : {N : Type 0} → AllAcquisitions → (N → Result Deed Refusal) → (Result N Refusal → CoreState) → Result N Refusal → Type 0
IsFine all given asked r = ArmsRightly all (result_then r given) × ((asked r).acquisitions ≡ all)

module _ {N : Type 0} (all : AllAcquisitions) (given : N → Result Deed Refusal) (asked : Result N Refusal → CoreState) where
  either : (b : Bool) (x y : Result N Refusal) → IsFine all given asked x → IsFine all given asked y → IsFine all given asked (cond b x y)
  either true x y h k = h
  either false x y h k = k

  known : (named : N) → ArmsRightly all (given named) → (asked (Ok named)).acquisitions ≡ all → IsFine all given asked (Ok named)
  unfolding IsFine
  known named h k = (h, k)

  refused : (refusal : Refusal) → (asked (Err refusal)).acquisitions ≡ all → IsFine all given asked (Err refusal)
  unfolding IsFine
  refused refusal k = (tt, k)

  made : {X : Type 0} (make : X → N) (r : Result X Refusal) → ((x : X) → ArmsRightly all (given (make x))) → ((x : X) → (asked (Ok (make x))).acquisitions ≡ all)
      → ((refusal : Refusal) → (asked (Err refusal)).acquisitions ≡ all) → IsFine all given asked (result_map make r)
  unfolding IsFine
  made make (Ok x) h k l = (h x, k x)
  made make (Err refusal) h k l = (tt, l refusal)

  maybe : {X : Type 0} (make : X → Result N Refusal) (x : Option X) (other : Result N Refusal) → ((y : X) → IsFine all given asked (make y)) → IsFine all given asked other → IsFine all given asked (option_map_or make x other)
  maybe make (Some x) other h k = h x
  maybe make None other h k = k

-- Deeds.

gives_fine : (all : AllAcquisitions) (r : Result Given Refusal) → ArmsRightly all (result_map gives r)
gives_fine all (Ok new) = tt
gives_fine all (Err refusal) = tt

resets_fine : (all : AllAcquisitions) (group : Option Group) (r : Result Bool Refusal) → ArmsRightly all (result_map (resets group) r)
resets_fine all group (Ok every) = tt
resets_fine all group (Err refusal) = tt

valued_fine : (all : AllAcquisitions) (b : Bool) (r : Result CaptureDeed Refusal) → ArmsRightly all (result_map captures r) → ArmsRightly all (result_map captures (cond b r (Err refusals.MalformedValue)))
valued_fine all true r h = h
valued_fine all false r h = tt

arming_fine : (all : AllAcquisitions) (layout : List Field) (refusal : Option Refusal) → arm_refusal all layout ≡ refusal → ArmsRightly all (result_map captures (armed_or_refused layout refusal))
arming_fine all layout None is = is
arming_fine all layout (Some refusal) is = tt

disarming_fine : (all : AllAcquisitions) (b : Bool) → ArmsRightly all (result_map captures (cond b (Ok disarms) (Err refusals.NotArmed)))
disarming_fine all true = tt
disarming_fine all false = tt

-- Targets, by what stands in them: what an assignment of a text to what is named does, and what a query of it leaves.
module _ (core : CoreState) (by : ℕ) (text : List ℕ) where
  labels_fine : (target : List ℕ) → IsFine core.acquisitions (named_given core.settings core.acquisitions text) (asked_of core by) (labels_named target)
  labels_fine target =
      let all = core.acquisitions in
      let g = named_given core.settings all text in
      let a = asked_of core by in
      either all g a (has_point target) _ _ (made all g a _ (found_of target) (λ x. tt) (λ x. refl) (λ r. refl)) (refused all g a refusals.NoSuchField refl)

  capture_fine : (name : List ℕ) → IsFine core.acquisitions (named_given core.settings core.acquisitions text) (asked_of core by) (capture_named name)
  capture_fine name =
      let all = core.acquisitions in
      let g = named_given core.settings all text in
      let a = asked_of core by in
      let layout = layout_of core.settings in
      either all g a (is_same name (codes "ARM")) _ _ (known all g a _ (valued_fine all (length text == 0) (arming all layout) (arming_fine all layout (arm_refusal all layout) refl)) refl)
      (either all g a (is_same name (codes "DISARM")) _ _ (known all g a _ (valued_fine all (length text == 0) (disarming all) (disarming_fine all (is_some all.running))) refl)
      (either all g a (is_same name (codes "STATUS")) _ _ (known all g a _ tt refl)
      (either all g a (is_same name (codes "CAPTURED")) _ _ (known all g a _ tt refl)
      (either all g a (is_same name (codes "COMPLETION")) _ _ (known all g a _ tt refl) (refused all g a refusals.NoSuchField refl)))))

  changes_fine : (name : List ℕ) → IsFine core.acquisitions (named_given core.settings core.acquisitions text) (asked_of core by) (changes_named name)
  changes_fine name =
      let all = core.acquisitions in
      let g = named_given core.settings all text in
      let a = asked_of core by in
      let reset = reset_given text in
      either all g a (is_same name (codes "CONFIG")) _ _ (known all g a _ (resets_fine all (Some groups.Config) reset) refl)
      (either all g a (is_same name (codes "ATTR")) _ _ (known all g a _ (resets_fine all (Some groups.Attr) reset) refl)
      (either all g a (is_same name (codes "TABLE")) _ _ (known all g a _ (resets_fine all (Some groups.Table) reset) refl)
      (either all g a (is_same name (codes "BITS")) _ _ (known all g a _ (resets_fine all (Some groups.Bits) reset) refl)
      (either all g a (is_same name (codes "POSN")) _ _ (known all g a _ (resets_fine all (Some groups.Posn) reset) refl)
      (either all g a (is_same name (codes "READ")) _ _ (known all g a _ (resets_fine all (Some groups.Read) reset) refl) (refused all g a refusals.NoSuchField refl))))))

  star_fine : (name : List ℕ) → IsFine core.acquisitions (named_given core.settings core.acquisitions text) (asked_of core by) (star_named name)
  star_fine name =
      let all = core.acquisitions in
      let g = named_given core.settings all text in
      let a = asked_of core by in
      either all g a (is_same name (codes "IDN")) _ _ (known all g a _ tt refl)
      (either all g a (is_same name (codes "WHO")) _ _ (known all g a _ tt refl)
      (either all g a (is_same name (codes "BLOCKS")) _ _ (known all g a _ tt refl)
      (either all g a (is_same name (codes "POSITIONS")) _ _ (known all g a _ tt refl)
      (either all g a (is_same name (codes "CAPTURE")) _ _ (known all g a _ (valued_fine all (length text == 0) (Ok clears) tt) refl)
      (either all g a (is_same name (codes "CHANGES")) _ _ (known all g a _ (resets_fine all None (reset_given text)) refl)
      (maybe all g a _ (after_front (codes "CHANGES.") name) _ changes_fine
      (maybe all g a _ (after_front (codes "PCAP.") name) _ capture_fine
      (maybe all g a _ (after_front (codes "ENUMS.") name) _ labels_fine (refused all g a refusals.NoSuchField refl)))))))))

  listing_fine : (front : List ℕ) → IsFine core.acquisitions (named_given core.settings core.acquisitions text) (asked_of core by) (listing_named front)
  listing_fine front =
      let all = core.acquisitions in
      let g = named_given core.settings all text in
      let a = asked_of core by in
      either all g a (has_point front) _ _ (made all g a _ (found_of front) (λ x. tt) (λ x. refl) (λ r. refl)) (made all g a _ (block_found front) (λ x. tt) (λ x. refl) (λ r. refl))

  block_fine : (target : List ℕ) → IsFine core.acquisitions (named_given core.settings core.acquisitions text) (asked_of core by) (block_named target)
  block_fine target =
      let all = core.acquisitions in
      let g = named_given core.settings all text in
      let a = asked_of core by in
      maybe all g a _ (before_end (codes ".*") target) _ listing_fine (made all g a _ (found_of target) (λ x. gives_fine all (slot_given core.settings text x)) (λ x. refl) (λ r. refl))

  pub target_fine : (target : List ℕ) → IsFine core.acquisitions (named_given core.settings core.acquisitions text) (asked_of core by) (named_by target)
  unfolding named_by
  target_fine target =
      let all = core.acquisitions in
      let g = named_given core.settings all text in
      let a = asked_of core by in
      maybe all g a _ (after_front (codes "*") target) _ star_fine (block_fine target)

-- an assignment arms only what isn't refused
pub arms_rightly : (core : CoreState) (target text : List ℕ) → ArmsRightly core.acquisitions (assignment core.settings core.acquisitions target text)
unfolding IsFine
arms_rightly core target text = (target_fine core 0 text target).0

-- a query leaves the acquisitions
pub asked_stays : (core : CoreState) (by : ℕ) (target : List ℕ) → (asked_of core by (named_by target)).acquisitions ≡ core.acquisitions
unfolding IsFine
asked_stays core by target = (target_fine core by [] target).1
