-- What a read, a change and a table write leave of a run.
use Rattle.std.proofs.Common.{◌≡◌, ◌≢◌, ℕ, ◌+◌, ◌<◌, ◌≤◌, ◌==◌, ◌||◌, Bool, true, false, List, map, length, get_or, set, refl, sym, ap, subst, ◌∙◌, Option, Some, None, Result, Ok, Err, if◌then◌else◌}
use Rattle.std.specs.Result.{is_ok}
use Rattle.std.specs.List.{AllByRecursion}
use Rattle.std.proofs.lemmas.Bool.{eqb-true, eq-eqb}
use Rattle.std.proofs.lemmas.List.{set-get_or, length-set}
use Rattle.pb_names.specs.declared.bits.TheConstants as bits
use Rattle.pb_words.specs.declared.Refusal.{Refusal}
use Rattle.pb_fields.specs.declared.Slot.{Slot}
use Rattle.pb_tables.specs.Computed.{answer_of}
use Rattle.pb_model.specs.declared.Change.{Change}
use Rattle.pb_model.specs.declared.Change.TheVariants as changes
use Rattle.pb_model.specs.declared.Block.{Block}
use Rattle.pb_model.specs.declared.units.Unit.{Unit as AnyUnit}
use Rattle.pb_model.specs.Units.{place_of, armed, disarmed}
use Rattle.pb_model.specs.Machines.{Name, machines, machine_kinds, place_in, with_named}
use Rattle.pb_model.specs.Tick.{kind_of}
use Rattle.pb_model.specs.Kept.{Kept, IsWhole}
use Rattle.pb_model.specs.Settings.{with_value, changed, block_of_slot}
use Rattle.pb_model.specs.Arming.{capture, with_unit, is_capture_idle, idle_by, kept_with_blocks}
use Rattle.pb_model.specs.Tables.{sequencer, block_left, table_left}
use Rattle.pb_model.proofs.UnitLemmas.{set_block, set_stays}
use Rattle.pb_model.proofs.ArmLemmas.{set_capture, capture_stays, arming_keeps, disarming_keeps, set_idle, armed_is_busy, disarmed_is_idle, left_idle}
use Rattle.pb_model.proofs.TableLemmas.{set_table, left_stays}
use Rattle.pb_lazy.specs.declared.Lazy.{Lazy}
use Rattle.pb_lazy.specs.Lazy.{caught_up, saw, awake, opening_lazy, IsSound}
use Rattle.pb_lazy.specs.Commands.{set_lazy, armed_lazy, disarmed_lazy, written_lazy}
use Rattle.pb_going.specs.Sims.{Going, IsGoing, now_of}
use Rattle.pb_jump.specs.Changing.{concerned, Costs, IsLeft, IsWritten, IsPeeked, stood_after}
use Rattle.pb_jump.proofs.CommandLemmas.{IsLeftBy, awake_left, set_left, armed_left, disarmed_left, written_left}
use Rattle.pb_jump.proofs.PlaceLemmas.{lazy_sound}
use Rattle.pb_jump.proofs.GoingLemmas.{few_outdated, same_outdated, many_lazies, blocks_left, saw_left, sound_left, own_left, own_there, own_stays}

-- with one block new, and other settings of BITS
abbrev pub with_one : Going → ℕ → Lazy → List Bool → Bool → Going
with_one g place new settings stood =
    record {
      rows = g.rows;
      tick = g.tick;
      buses = g.buses;
      settings = settings;
      lazies = set g.lazies place new;
      first = g.first;
      stood = stood;
    }

-- This block stands under this name, and what was spent on it is at most one call, or none where it stands at the tick.
pub record IsOne (g : Going) (place : ℕ) (lazy : Lazy) (name : Name) (was spent : ℕ) : Type 0 where
  pub kept : IsGoing g
  pub inside : place < length g.lazies
  pub named : place ≡ place_in machines name
  pub here : lazy ≡ get_or g.lazies place lazy
  pub one : spent ≤ was + 1
  pub none : lazy.own ≡ g.tick → spent ≡ was

module _ (g : Going) (place : ℕ) (lazy : Lazy) (name : Name) (was spent : ℕ) (is : IsOne g place lazy name was spent)
    (f : Block → Block) (new : Lazy) (left : IsLeftBy f g.tick g.first lazy new) where
  there : IsLeftBy f g.tick g.first (get_or g.lazies place lazy) new
  there = subst (λ (l : Lazy). IsLeftBy f g.tick g.first l new) is.here left

  costs : (settings : List Bool) (stood : Bool) → Costs (Some name) g (with_one g place new settings stood) was spent
  costs settings stood =
      let many : length g.lazies ≡ 35 = many_lazies g.tick g.lazies is.kept.whole.kinds in (
        is.one,
        λ now. is.none
            (ap (λ (l : Lazy). l.own) is.here
            ∙ (sym (own_there g.lazies place lazy is.inside name (opening_lazy name.kind) many is.named) ∙ now)),
        own_left f g.tick g.first g.lazies place new lazy is.inside there name (opening_lazy name.kind) many is.named,
        few_outdated g.lazies place new lazy is.inside,
      )

  blocks_are : map (caught_up g.tick) (set g.lazies place new)
      ≡ set (now_of g).blocks place (f (get_or (now_of g).blocks place (caught_up g.tick lazy)))
  blocks_are = blocks_left f g.tick g.first g.lazies place new lazy is.inside there (caught_up g.tick lazy)

  now_is : (settings : List Bool) (stood : Bool) →
      now_of (with_one g place new settings stood)
      ≡ record {
        tick = g.tick;
        buses = g.buses;
        settings = settings;
        blocks = set (now_of g).blocks place (f (get_or (now_of g).blocks place (caught_up g.tick lazy)));
      }
  now_is settings stood = ap (λ (l : List Block). record { tick = g.tick; buses = g.buses; settings = settings; blocks = l }) blocks_are

  all_sound : AllByRecursion (IsSound g.tick g.first) (set g.lazies place new)
  all_sound = sound_left f g.tick g.first g.lazies place new lazy is.inside there is.kept.sound

  saw_same : map (saw g.first) (set g.lazies place new) ≡ map (saw g.first) g.lazies
  saw_same = saw_left f g.tick g.first g.lazies place new lazy is.inside there

-- A block is brought to the tick.

module _ (g : Going) (place : ℕ) (lazy : Lazy) (name : Name) (was spent : ℕ) (is : IsOne g place lazy name was spent) (new : Lazy)
    (made : new ≡ awake g.tick lazy) where
  brought : IsLeftBy (λ block. block) g.tick g.first lazy new
  brought =
      subst (λ (l : Lazy). IsLeftBy (λ block. block) g.tick g.first lazy l) (sym made)
      (awake_left g.tick g.first lazy (lazy_sound g place lazy is.kept is.inside is.here))

  blocks_stay : map (caught_up g.tick) (set g.lazies place new) ≡ (now_of g).blocks
  blocks_stay =
      blocks_are g place lazy name was spent is (λ block. block) new brought ∙ set-get_or (now_of g).blocks place (caught_up g.tick lazy)

  pub peeked : IsPeeked name g (with_one g place new g.settings g.stood) was spent
  peeked =
      record {
        brought = record {
          now = ap (λ (l : List Block). record { tick = g.tick; buses = g.buses; settings = g.settings; blocks = l }) blocks_stay;
          rows = refl;
          first = refl;
          stood = refl;
          before = saw_same g place lazy name was spent is (λ block. block) new brought;
          known =
              same_outdated g.lazies place new lazy is.inside
              (ap (λ (l : Lazy). l.outdated) made ∙ ap (λ (l : Lazy). l.outdated) is.here);
          stays = λ other h. own_stays machines other g.lazies place new (opening_lazy other.kind) g.tick brought.own h;
        };
        costs = costs g place lazy name was spent is (λ block. block) new brought g.settings g.stood;
      }

  pub peeked_going : IsGoing (with_one g place new g.settings g.stood)
  peeked_going =
      record {
        whole = subst (λ (l : List Block). IsWhole l g.settings) (sym blocks_stay) is.kept.whole;
        sound = all_sound g place lazy name was spent is (λ block. block) new brought;
      }

-- What a change leaves of PCAP.
changed_idle : (kept : Kept) (change : Change) → map kind_of kept.blocks ≡ machine_kinds →
    is_capture_idle (changed kept change).blocks ≡ idle_by change (is_capture_idle kept.blocks)
changed_idle kept (changes.Set slot raw) kinds = set_idle slot raw kept.blocks
changed_idle kept (changes.Arm room) kinds = armed_is_busy kept.blocks room kinds
changed_idle kept changes.Disarm kinds = disarmed_is_idle kept.blocks kinds

idle_left : (new : Going) (kept : Kept) (change : Change) → map kind_of kept.blocks ≡ machine_kinds → now_of new ≡ changed kept change →
    is_capture_idle (now_of new).blocks ≡ idle_by change (is_capture_idle kept.blocks)
idle_left new kept change kinds now = ap (λ (k : Kept). is_capture_idle k.blocks) now ∙ changed_idle kept change kinds

-- A setting.

concerns : (slot : Slot) (raw : ℕ) → slot.block ≢ bits.BLOCK → concerned (changes.Set slot raw) ≡ Some (block_of_slot slot)
concerns slot raw ne = by (slot.block == bits.BLOCK) refl
  where
    by : (b : Bool) → (slot.block == bits.BLOCK) ≡ b → (if b then None else Some (block_of_slot slot)) ≡ Some (block_of_slot slot)
    by true e = absurd (ne (eqb-true slot.block bits.BLOCK e))
    by false e = refl

module _ (g : Going) (place : ℕ) (lazy : Lazy) (slot : Slot) (raw was spent : ℕ) (is : IsOne g place lazy (block_of_slot slot) was spent)
    (ne : slot.block ≢ bits.BLOCK) (new : Lazy) (made : new ≡ set_lazy slot raw g.tick lazy) where
  is_set : IsLeftBy (with_value slot raw) g.tick g.first lazy new
  is_set =
      subst (λ (l : Lazy). IsLeftBy (with_value slot raw) g.tick g.first lazy l) (sym made)
      (set_left slot raw g.tick g.first lazy (lazy_sound g place lazy is.kept is.inside is.here))

  set_now : now_of (with_one g place new g.settings true) ≡ changed (now_of g) (changes.Set slot raw)
  set_now =
      now_is g place lazy (block_of_slot slot) was spent is (with_value slot raw) new is_set g.settings true
      ∙ set_block (now_of g) slot raw place (with_value slot raw (get_or (now_of g).blocks place (caught_up g.tick lazy))) (caught_up g.tick lazy)
      is.kept.whole ne is.named refl

  pub set_one : IsLeft (changes.Set slot raw) g (with_one g place new g.settings true) was spent
  set_one =
      record {
        now = set_now;
        rows = refl;
        tick = refl;
        first = refl;
        stood = refl;
        before = saw_same g place lazy (block_of_slot slot) was spent is (with_value slot raw) new is_set;
        idle = idle_left (with_one g place new g.settings true) (now_of g) (changes.Set slot raw) is.kept.whole.kinds set_now;
        costs =
            subst (λ (n : Option Name). Costs n g (with_one g place new g.settings true) was spent) (sym (concerns slot raw ne))
            (costs g place lazy (block_of_slot slot) was spent is (with_value slot raw) new is_set g.settings true);
      }

  pub set_going : IsGoing (with_one g place new g.settings true)
  set_going =
      record {
        whole =
            subst (λ (l : List Block). IsWhole l g.settings)
            (sym (blocks_are g place lazy (block_of_slot slot) was spent is (with_value slot raw) new is_set))
            (set_stays (now_of g).blocks g.settings slot raw place (with_value slot raw (get_or (now_of g).blocks place (caught_up g.tick lazy)))
            (caught_up g.tick lazy) is.kept.whole refl);
        sound = all_sound g place lazy (block_of_slot slot) was spent is (with_value slot raw) new is_set;
      }

-- A setting of BITS.

abbrev pub with_values : Going → List Bool → Going
with_values g settings =
    record {
      rows = g.rows;
      tick = g.tick;
      buses = g.buses;
      settings = settings;
      lazies = g.lazies;
      first = g.first;
      stood = true;
    }

module _ (g : Going) (is : IsGoing g) (slot : Slot) (raw was : ℕ) (h : slot.block ≡ bits.BLOCK) where
  is_bits : true ≡ (slot.block == bits.BLOCK)
  is_bits = sym (eq-eqb slot.block bits.BLOCK h)

  bits_now : now_of (with_values g (set g.settings slot.field (raw == 1))) ≡ changed (now_of g) (changes.Set slot raw)
  bits_now =
      ap (λ (b : Bool). record {
        tick = g.tick;
        buses = g.buses;
        settings = if b then set g.settings slot.field (raw == 1) else g.settings;
        blocks = if b then (now_of g).blocks else with_named machines (block_of_slot slot) (with_value slot raw) (now_of g).blocks;
      }) is_bits

  pub bits_one : IsLeft (changes.Set slot raw) g (with_values g (set g.settings slot.field (raw == 1))) was was
  bits_one =
      record {
        now = bits_now;
        rows = refl;
        tick = refl;
        first = refl;
        stood = refl;
        before = refl;
        idle = refl;
        costs =
            subst (λ (n : Option Name). Costs n g (with_values g (set g.settings slot.field (raw == 1))) was was)
            (ap (λ (b : Bool). if b then None else Some (block_of_slot slot)) is_bits) (refl, refl);
      }

  pub bits_going : IsGoing (with_values g (set g.settings slot.field (raw == 1)))
  bits_going =
      record {
        whole = record { kinds = is.whole.kinds; four = length-set g.settings slot.field (raw == 1) ∙ is.whole.four };
        sound = is.sound;
      }

-- Arming and disarming.

module _ (g : Going) (place : ℕ) (lazy : Lazy) (was spent : ℕ) (is : IsOne g place lazy capture was spent) (change : AnyUnit → AnyUnit)
    (new : Lazy) (left : IsLeftBy (with_unit change) g.tick g.first lazy new) where
  pub capture_now : now_of (with_one g place new g.settings true)
      ≡ kept_with_blocks (now_of g) (with_named machines capture (with_unit change) (now_of g).blocks)
  capture_now =
      now_is g place lazy capture was spent is (with_unit change) new left g.settings true
      ∙ set_capture (now_of g) change place (with_unit change (get_or (now_of g).blocks place (caught_up g.tick lazy))) (caught_up g.tick lazy)
      is.kept.whole is.named refl

  pub capture_going : ((unit : AnyUnit) → place_of (change unit) ≡ place_of unit) → IsGoing (with_one g place new g.settings true)
  capture_going keeps =
      record {
        whole =
            subst (λ (l : List Block). IsWhole l g.settings) (sym (blocks_are g place lazy capture was spent is (with_unit change) new left))
            (capture_stays (now_of g).blocks g.settings change place (with_unit change (get_or (now_of g).blocks place (caught_up g.tick lazy)))
            (caught_up g.tick lazy) is.kept.whole keeps refl);
        sound = all_sound g place lazy capture was spent is (with_unit change) new left;
      }

module _ (g : Going) (room place : ℕ) (lazy : Lazy) (was spent : ℕ) (is : IsOne g place lazy capture was spent) (new : Lazy)
    (made : new ≡ armed_lazy room g.tick lazy) where
  is_armed : IsLeftBy (with_unit (armed room)) g.tick g.first lazy new
  is_armed =
      subst (λ (l : Lazy). IsLeftBy (with_unit (armed room)) g.tick g.first lazy l) (sym made)
      (armed_left room g.tick g.first lazy (lazy_sound g place lazy is.kept is.inside is.here))

  pub arm_one : IsLeft (changes.Arm room) g (with_one g place new g.settings true) was spent
  arm_one =
      let now = capture_now g place lazy was spent is (armed room) new is_armed in
      record {
        now = now;
        rows = refl;
        tick = refl;
        first = refl;
        stood = refl;
        before = saw_same g place lazy capture was spent is (with_unit (armed room)) new is_armed;
        idle = idle_left (with_one g place new g.settings true) (now_of g) (changes.Arm room) is.kept.whole.kinds now;
        costs = costs g place lazy capture was spent is (with_unit (armed room)) new is_armed g.settings true;
      }

  pub arm_going : IsGoing (with_one g place new g.settings true)
  arm_going = capture_going g place lazy was spent is (armed room) new is_armed (arming_keeps room)

module _ (g : Going) (place : ℕ) (lazy : Lazy) (was spent : ℕ) (is : IsOne g place lazy capture was spent) (new : Lazy)
    (made : new ≡ disarmed_lazy g.tick lazy) where
  is_disarmed : IsLeftBy (with_unit disarmed) g.tick g.first lazy new
  is_disarmed =
      subst (λ (l : Lazy). IsLeftBy (with_unit disarmed) g.tick g.first lazy l) (sym made)
      (disarmed_left g.tick g.first lazy (lazy_sound g place lazy is.kept is.inside is.here))

  pub disarm_one : IsLeft changes.Disarm g (with_one g place new g.settings true) was spent
  disarm_one =
      let now = capture_now g place lazy was spent is disarmed new is_disarmed in
      record {
        now = now;
        rows = refl;
        tick = refl;
        first = refl;
        stood = refl;
        before = saw_same g place lazy capture was spent is (with_unit disarmed) new is_disarmed;
        idle = idle_left (with_one g place new g.settings true) (now_of g) changes.Disarm is.kept.whole.kinds now;
        costs = costs g place lazy capture was spent is (with_unit disarmed) new is_disarmed g.settings true;
      }

  pub disarm_going : IsGoing (with_one g place new g.settings true)
  disarm_going = capture_going g place lazy was spent is disarmed new is_disarmed disarming_keeps

-- A table write.

-- only an accepted one is an event
pub stood_told : (stood : Bool) (told : Result (Unit {0}) Refusal) (words : Result (List ℕ) Refusal) → told ≡ answer_of words →
    (stood || is_ok told) ≡ stood_after words stood
stood_told true (Ok done) (Ok words) e = refl
stood_told false (Ok done) (Ok words) e = refl
stood_told true (Err refusal) (Err other) e = refl
stood_told false (Err refusal) (Err other) e = refl
stood_told stood (Ok done) (Err other) e = cc
stood_told stood (Err refusal) (Ok words) e = cc

module _ (g : Going) (number place : ℕ) (lazy : Lazy) (was spent : ℕ) (is : IsOne g place lazy (sequencer number) was spent)
    (words : Result (List ℕ) Refusal) (new : Lazy) (made : new ≡ written_lazy g.tick words lazy) where
  is_written : IsLeftBy (λ block. block_left block words) g.tick g.first lazy new
  is_written =
      subst (λ (l : Lazy). IsLeftBy (λ block. block_left block words) g.tick g.first lazy l) (sym made)
      (written_left g.tick g.first lazy words (lazy_sound g place lazy is.kept is.inside is.here))

  write_now : (stood : Bool) → now_of (with_one g place new g.settings stood) ≡ table_left (now_of g) number words
  write_now stood =
      now_is g place lazy (sequencer number) was spent is (λ block. block_left block words) new is_written g.settings stood
      ∙ set_table (now_of g) number place (block_left (get_or (now_of g).blocks place (caught_up g.tick lazy)) words) (caught_up g.tick lazy) words
      is.kept.whole is.named refl

  pub write_one : (stood : Bool) → stood ≡ stood_after words g.stood →
      IsWritten number words g (with_one g place new g.settings stood) was spent
  write_one stood e =
      record {
        now = write_now stood;
        rows = refl;
        tick = refl;
        first = refl;
        stood = e;
        before = saw_same g place lazy (sequencer number) was spent is (λ block. block_left block words) new is_written;
        idle = ap (λ (k : Kept). is_capture_idle k.blocks) (write_now stood) ∙ left_idle (now_of g) number words;
        costs = costs g place lazy (sequencer number) was spent is (λ block. block_left block words) new is_written g.settings stood;
      }

  pub write_going : (stood : Bool) → IsGoing (with_one g place new g.settings stood)
  write_going stood =
      record {
        whole =
            subst (λ (l : List Block). IsWhole l g.settings)
            (sym (blocks_are g place lazy (sequencer number) was spent is (λ block. block_left block words) new is_written))
            (left_stays (now_of g).blocks g.settings place (block_left (get_or (now_of g).blocks place (caught_up g.tick lazy)) words)
            (caught_up g.tick lazy) words is.kept.whole refl);
        sound = all_sound g place lazy (sequencer number) was spent is (λ block. block_left block words) new is_written;
      }
