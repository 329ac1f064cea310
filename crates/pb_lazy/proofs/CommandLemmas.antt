-- What commands leave of a lazy block stands for the block after them.
use Rattle.std.proofs.Common.{◌≡◌, ℕ, zero, suc, ◌+◌, ◌-◌, ◌<◌, ◌==◌, Bool, true, false, List, [], ◌∷◌, map, get_or, set, refl, sym, ap, subst, ◌∙◌, arith, if◌then◌else◌}
use Rattle.pb_names.specs.declared.TheConstants.{ITSELF}
use Rattle.pb_names.specs.declared.pcap.TheConstants as pcap
use Rattle.pb_fields.specs.declared.Slot.{Slot}
use Rattle.pb_fields.specs.declared.FieldType.{FieldType}
use Rattle.pb_fields.specs.declared.FieldType.TheVariants as types
use Rattle.pb_fields.specs.Slots.{type_at}
use Rattle.pb_buses.specs.Rules.{after, IsCalm}
use Rattle.pb_buses.specs.Delay.{BitInput, pushed, line_after, wired, delayed, opening_input}
use Rattle.pb_model.specs.declared.Block.{Block}
use Rattle.pb_model.specs.declared.units.Unit.{Unit as AnyUnit}
use Rattle.pb_model.specs.Units.{rules, place_of, armed, disarmed, with_words}
use Rattle.pb_model.specs.declared.units.Unit.TheVariants as units
use Rattle.pb_model.specs.Tick.{kind_of}
use Rattle.pb_model.specs.Arming.{with_unit}
use Rattle.pb_model.specs.Settings.{bit_place, with_input, with_field_value, with_value}
use Rattle.pb_model.proofs.UnitLemmas.{value_stays}
use Rattle.pb_lazy.specs.declared.lazies.Lazy.{Lazy}
use Rattle.pb_lazy.specs.Lazy.{lately, unit_at, caught_up, awake, IsDue, IsLoose, IsSound}
use Rattle.pb_lazy.specs.Commands.{set_lazy, unit_changed}
use Rattle.pb_lazy.proofs.LazyLemmas.{lately_twice, kind_stays, unit_later, calm_from}
use Rattle.pb_still.proofs.StillLemmas.{map-two}

-- the unit brought to the tick
pub awake_stands : (tick : ℕ) (lazy : Lazy) → caught_up tick (awake tick lazy) ≡ caught_up tick lazy
awake_stands tick lazy =
    let none : tick - tick ≡ 0 = omega arith in
    ap (λ (n : ℕ). record {
      unit = after rules lazy.kept tick n (unit_at tick lazy);
      bits = map (lately (tick - lazy.at)) lazy.block.bits;
      positions = lazy.block.positions;
    }) none

-- the unit changed
pub unit_stands : (change : AnyUnit → AnyUnit) (tick : ℕ) (lazy : Lazy) → caught_up tick (unit_changed change tick lazy) ≡ with_unit change (caught_up tick lazy)
unit_stands change tick lazy =
    let none : tick - tick ≡ 0 = omega arith in
    ap (λ (n : ℕ). record {
      unit = after rules lazy.kept tick n (change (unit_at tick lazy));
      bits = map (lately (tick - lazy.at)) lazy.block.bits;
      positions = lazy.block.positions;
    }) none

-- Lines that were cut are as they were cut again.

cut_again : (n : ℕ) (input : BitInput) → lately 0 (lately n input) ≡ lately n input
cut_again n input =
    let e : n + 0 ≡ n = omega arith in
    lately_twice n 0 input ∙ ap (λ (k : ℕ). lately k input) e

cut_opening : lately 0 opening_input ≡ opening_input
unfolding pushed line_after
cut_opening = refl

map_get : {X : Type 0} (f : X → X) (xs : List X) (p : ℕ) (d : X) → f d ≡ d → map f xs ≡ xs → f (get_or xs p d) ≡ get_or xs p d
map_get f [] p d e h = e
map_get f (x ∷ xs) zero d e h = cc
map_get f (x ∷ xs) (suc p) d e h = let rest : map f xs ≡ xs = cc in map_get f xs p d e rest

map_set : {X : Type 0} (f : X → X) (xs : List X) (p : ℕ) (y : X) → map f xs ≡ xs → f y ≡ y → map f (set xs p y) ≡ set xs p y
map_set f [] p y h e = refl
map_set f (x ∷ xs) zero y h e = let rest : map f xs ≡ xs = cc in ap (λ z. z ∷ map f xs) e ∙ ap (λ l. y ∷ l) rest
map_set f (x ∷ xs) (suc p) y h e =
    let first : f x ≡ x = cc in
    let rest : map f xs ≡ xs = cc in
    ap (λ z. z ∷ map f (set xs p y)) first ∙ ap (λ l. x ∷ l) (map_set f xs p y rest e)

cut_wired : (raw : ℕ) (input : BitInput) → lately 0 input ≡ input → lately 0 (wired input raw) ≡ wired input raw
cut_wired raw input e = ap (λ (i : BitInput). wired i raw) e

cut_delayed : (raw : ℕ) (input : BitInput) → lately 0 input ≡ input → lately 0 (delayed input raw) ≡ delayed input raw
cut_delayed raw input e = ap (λ (i : BitInput). delayed i raw) e

module _ (slot : Slot) (raw : ℕ) (block : Block) (cut : map (lately 0) block.bits ≡ block.bits) where
  by_type : (t : FieldType) → map (lately 0) (with_field_value t slot raw block).bits ≡ (with_field_value t slot raw block).bits
  by_type types.BitMux =
      map_set (lately 0) block.bits (bit_place slot) (wired (get_or block.bits (bit_place slot) opening_input) raw) cut
      (cut_wired raw (get_or block.bits (bit_place slot) opening_input) (map_get (lately 0) block.bits (bit_place slot) opening_input cut_opening cut))
  by_type types.PosMux = cut
  by_type _ = cut

  by_attribute : (b : Bool) →
      map (lately 0) (if b then with_field_value (type_at slot) slot raw block else with_input (bit_place slot) (λ input. delayed input raw) block).bits
      ≡ (if b then with_field_value (type_at slot) slot raw block else with_input (bit_place slot) (λ input. delayed input raw) block).bits
  by_attribute true = by_type (type_at slot)
  by_attribute false =
      map_set (lately 0) block.bits (bit_place slot) (delayed (get_or block.bits (bit_place slot) opening_input) raw) cut
      (cut_delayed raw (get_or block.bits (bit_place slot) opening_input) (map_get (lately 0) block.bits (bit_place slot) opening_input cut_opening cut))

  pub cut_value : map (lately 0) (with_value slot raw block).bits ≡ (with_value slot raw block).bits
  cut_value = by_attribute (slot.attr == ITSELF)

-- a setting took a value
pub set_stands : (slot : Slot) (raw tick : ℕ) (lazy : Lazy) → caught_up tick (set_lazy slot raw tick lazy) ≡ with_value slot raw (caught_up tick lazy)
set_stands slot raw tick lazy =
    let none : tick - tick ≡ 0 = omega arith in
    let block : Block = caught_up tick lazy in
    let cut : map (lately 0) block.bits ≡ block.bits =
    map-two (lately 0) (lately (tick - lazy.at)) (lately (tick - lazy.at)) (cut_again (tick - lazy.at)) lazy.block.bits in
    ap (λ (n : ℕ). record {
      unit = after rules lazy.kept tick n (with_value slot raw block).unit;
      bits = map (lately n) (with_value slot raw block).bits;
      positions = (with_value slot raw block).positions;
    }) none
    ∙ ap (λ (l : List BitInput). record {
      unit = (with_value slot raw block).unit;
      bits = l;
      positions = (with_value slot raw block).positions;
    }) (cut_value slot raw block cut)

-- They stay sound.

none_left : (tick k : ℕ) → k < tick - tick → ⊥
none_left tick k h = omega arith

-- another unit of the same kind
with_kind : (unit : AnyUnit) (lazy : Lazy) → IsLoose lazy.block lazy.kept → place_of unit ≡ kind_of lazy.block →
    IsLoose (record { unit = unit; bits = lazy.block.bits; positions = lazy.block.positions }) lazy.kept
with_kind unit lazy loose e =
    record {
      unwired =
          record {
            kind = ap (λ (k : ℕ). k == pcap.BLOCK) e ∙ loose.unwired.kind;
            bits = loose.unwired.bits;
            positions = loose.unwired.positions;
          };
      lines = loose.lines;
      zeros = loose.zeros;
    }

pub awake_sound : (tick : ℕ) (first : Bool) (lazy : Lazy) → IsSound tick first lazy → IsSound tick first (awake tick lazy)
awake_sound tick first lazy sound =
    record {
      own = omega arith;
      at = sound.at;
      calm = λ k below. absurd (none_left tick k below);
      steady = sound.steady;
      narrow = λ h. sound.narrow (ap (λ (k : ℕ). k == pcap.BLOCK) (sym (kind_stays tick lazy)) ∙ h);
      loose = λ e. with_kind (unit_at tick lazy) lazy (sound.loose e) (kind_stays tick lazy);
      deadline = λ a b. due_on (sound.deadline a b);
    }
  where
    due_on : IsDue tick lazy → IsDue tick (awake tick lazy)
    due_on due =
        let at : tick + (lazy.due - tick) ≡ lazy.due = omega (arith, due.from_now) in
        let same : after rules lazy.kept tick (lazy.due - tick) (unit_at tick lazy) ≡ unit_at lazy.due lazy =
        sym (unit_later tick (lazy.due - tick) lazy sound.own) ∙ ap (λ (t : ℕ). unit_at t lazy) at in
        record {
          from_now = due.from_now;
          within = due.within;
          calm = calm_from tick (lazy.due - tick) lazy sound.own due (omega (arith, at));
          ends = λ less calm. due.ends less (subst (λ (u : AnyUnit). IsCalm rules lazy.kept lazy.due u) same calm);
        }

pub unit_sound : (change : AnyUnit → AnyUnit) (tick : ℕ) (first : Bool) (lazy : Lazy) → ((u : AnyUnit) → place_of (change u) ≡ place_of u) →
    IsSound tick first lazy → IsSound tick first (unit_changed change tick lazy)
unit_sound change tick first lazy kind sound =
    record {
      own = omega arith;
      at = sound.at;
      calm = λ k below. absurd (none_left tick k below);
      steady = sound.steady;
      narrow = λ h. sound.narrow (ap (λ (k : ℕ). k == pcap.BLOCK) (sym (kind (unit_at tick lazy) ∙ kind_stays tick lazy)) ∙ h);
      loose = λ e. with_kind (change (unit_at tick lazy)) lazy (sound.loose e) (kind (unit_at tick lazy) ∙ kind_stays tick lazy);
      deadline = λ a b. absurd (true_is_not_false b);
    }
  where
    true_is_not_false : true ≡ false → ⊥
    true_is_not_false e = cc

pub set_sound : (slot : Slot) (raw tick : ℕ) (first : Bool) (lazy : Lazy) → IsSound tick first lazy → IsSound tick first (set_lazy slot raw tick lazy)
set_sound slot raw tick first lazy sound =
    record {
      own = omega arith;
      at = omega arith;
      calm = λ k below. absurd (none_left tick k below);
      steady = λ k below. absurd (omega arith);
      narrow = λ h. sound.narrow (ap (λ (k : ℕ). k == pcap.BLOCK) (sym (value_stays slot raw (caught_up tick lazy) ∙ kind_stays tick lazy)) ∙ h);
      loose = λ e. absurd (true_is_not_false e);
      deadline = λ a b. absurd (true_is_not_false b);
    }
  where
    true_is_not_false : true ≡ false → ⊥
    true_is_not_false e = cc

-- They leave the kind.

pub armed_kind : (room : ℕ) (u : AnyUnit) → place_of (armed room u) ≡ place_of u
armed_kind room (units.Pcap block) = refl
armed_kind room _ = refl

pub disarmed_kind : (u : AnyUnit) → place_of (disarmed u) ≡ place_of u
disarmed_kind (units.Pcap block) = refl
disarmed_kind _ = refl

pub words_kind : (words : List ℕ) (u : AnyUnit) → place_of (with_words words u) ≡ place_of u
words_kind words (units.Seq block) = refl
words_kind words _ = refl
