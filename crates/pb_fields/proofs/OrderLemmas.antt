-- The slots that follow each other are all slots of the catalogue.
use Rattle.std.proofs.Common.{◌≡◌, ◌≢◌, ℕ, suc, zero, ◌+◌, ◌<◌, ◌≤◌, Bool, true, false, eqb, List, ◌++◌, length, refl, sym, subst, arith, None, Contains}
use Rattle.std.specs.List.{flat_map, range_with_len}
use Rattle.std.proofs.lemmas.Bool.{eqb-false, eqb-true}
use Rattle.std.proofs.lemmas.List.FromFn.{get_or-map-range_with_len, length-map-range_with_len}
use Rattle.std.proofs.lemmas.List.Elements.{Contains-append_left, Contains-append_right}
use Rattle.pb_fields.specs.declared.slots.Slot.{Slot}
use Rattle.pb_fields.specs.Catalogue.{catalogue}
use Rattle.pb_fields.specs.Types.{attributes_of}
use Rattle.pb_fields.specs.Places.{count_of, fields_of, type_of}
use Rattle.pb_fields.specs.Slots.{IsSlot}
use Rattle.pb_fields.specs.Order.{slot_at, following_of, slots, slots_of_block, slots_of_instance, slots_of_field, visits}

pub walk : visits 2000 (following_of None) ≡ slots
unfolding catalogue slots
walk = refl

-- what is in the list of one number of a range is in the list of all
choose_range : {X : Type 0} (f : ℕ → List X) (a n k : ℕ) (x : X) (t : Bool) → eqb a k ≡ t → Contains (f k) x → (a ≢ k → Contains (flat_map f (range_with_len (a + 1) n)) x) → Contains (f a ++ flat_map f (range_with_len (a + 1) n)) x
choose_range {X} f a n k x true e h g =
    let P : ℕ → Type 0 = λ i. Contains (f i) x in
    Contains-append_left (f a) (flat_map f (range_with_len (a + 1) n)) x (subst P (sym (eqb-true a k e)) h)
choose_range f a n k x false e h g =
    Contains-append_right (f a) (flat_map f (range_with_len (a + 1) n)) x (g (eqb-false a k e))

Contains-range : {X : Type 0} (f : ℕ → List X) (a n k : ℕ) (x : X) → a ≤ k → k < a + n → Contains (f k) x → Contains (flat_map f (range_with_len a n)) x
Contains-range f a zero k x from below h = absurd (omega arith)
Contains-range f a (suc n) k x from below h =
    choose_range f a n k x (eqb a k) refl h (λ ne. Contains-range f (a + 1) n k x (omega (arith, ne)) (omega arith) h)

pub every : (slot : Slot) → IsSlot slot → Contains slots slot
unfolding slots
every slot s =
    let n : ℕ = 1 + length (attributes_of (type_of slot.block slot.field)) in
    let in_attributes : slot.attr < n = omega (arith, s.in_attributes) in
    let in_field : Contains (slots_of_field slot.block slot.instance slot.field) slot =
    (slot.attr, omega (arith, length-map-range_with_len (slot_at slot.block slot.instance slot.field) 0 n), get_or-map-range_with_len (slot_at slot.block slot.instance slot.field) 0 n slot.attr slot.attr slot in_attributes (omega arith)) in
    let in_instance : Contains (slots_of_instance slot.block slot.instance) slot =
    Contains-range (slots_of_field slot.block slot.instance) 0 (length (fields_of slot.block)) slot.field slot (omega arith) (omega (arith, s.in_fields)) in_field in
    let in_block : Contains (slots_of_block slot.block) slot =
    Contains-range (slots_of_instance slot.block) 1 (count_of slot.block) slot.instance slot s.from_one (omega (arith, s.in_count)) in_instance in
    Contains-range slots_of_block 0 12 slot.block slot (omega arith) (omega (arith, s.in_blocks)) in_block
