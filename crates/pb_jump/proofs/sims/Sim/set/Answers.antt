use Rattle.std.proofs.Common.{◌<◌, ◌≤◌, ◌==◌, true, set, length, sym, subst, ◌∙◌, arith}
use Rattle.pb_names.specs.declared.lut.TheConstants as lut
use Rattle.pb_model.specs.declared.Change.TheVariants as changes
use Rattle.pb_model.specs.Settings.{block_of_slot}
use Rattle.pb_model.proofs.SettingLemmas.{field_taken, taken_bounds}
use Rattle.pb_lazy.specs.declared.Lazy.{Lazy}
use Rattle.pb_lazy.specs.Lazy.{IsSound}
use Rattle.pb_lazy.proofs.LazyLemmas.{kind_stays}
use Rattle.pb_going.specs.Sims.{Going, going}
use Rattle.pb_jump.specs.Changing.{IsLeft}
use Rattle.pb_jump.proofs.PlaceLemmas.{any_inside, lazy_sound, slot_kind}
use Rattle.pb_jump.proofs.DoneLemmas.{IsOne, with_one, with_values, set_one, set_going, bits_one, bits_going}
use Rattle.pb_jump.proofs.sims.Sim.set.Goals as goal

pub bounds-self-inside-slot : goal.bounds-self-inside-slot
bounds-self-inside-slot g c =
    (taken_bounds c.args.slot c.requires.in_catalogue (field_taken c.args.slot c.args.raw c.requires)).1 c.if-slot-eq-BLOCK.true

pub invariant_of-self : goal.invariant_of-self
invariant_of-self g c =
    let s = c.self.inside in
    let was : Going = going s.stimulus s.tick s.buses s.settings s.lazies.items s.first s.stood in
    (bits_going was c.self.invariant.0 c.args.slot c.args.raw c.args.steps.now c.if-slot-eq-BLOCK.true, c.self.invariant.1)

pub returns-then-slot-eq-BLOCK : goal.returns-then-slot-eq-BLOCK
returns-then-slot-eq-BLOCK g c =
    let s = c.self.inside in
    let was : Going = going s.stimulus s.tick s.buses s.settings s.lazies.items s.first s.stood in
    let new : Going = with_values was (set s.settings c.args.slot.field (c.args.raw == 1)) in
    subst (λ (x : Going). IsLeft (changes.Set c.args.slot c.args.raw) x new c.args.steps.now c.args.steps.now) c.self.view_is
    (bits_one was c.self.invariant.0 c.args.slot c.args.raw c.args.steps.now c.if-slot-eq-BLOCK.true)

pub machine-place-requires-clause-from_lut : goal.machine-place-requires-clause-from_lut
machine-place-requires-clause-from_lut g c =
    omega (arith, (taken_bounds c.args.slot c.requires.in_catalogue (field_taken c.args.slot c.args.raw c.requires)).0)

pub index_mut-lazy-requires : goal.index_mut-lazy-requires
index_mut-lazy-requires g c =
    let s = c.self.inside in
    let was : Going = going s.stimulus s.tick s.buses s.settings s.lazies.items s.first s.stood in
    omega (arith, any_inside was c.machine-place.result c.self.invariant.0 c.machine-place.ensures.few)

pub set-requires-clause-kind : goal.set-requires-clause-kind
set-requires-clause-kind g c =
    let s = c.self.inside in
    let was : Going = going s.stimulus s.tick s.buses s.settings s.lazies.items s.first s.stood in
    let inside : c.machine-place.result < length s.lazies.items =
    any_inside was c.machine-place.result c.self.invariant.0 c.machine-place.ensures.few in
    let lazy : Lazy = c.index_mut-lazy.result.now in
    let sound : IsSound s.tick s.first lazy = lazy_sound was c.machine-place.result lazy c.self.invariant.0 inside c.index_mut-lazy.ensures.value in
    let from : lut.BLOCK ≤ c.args.slot.block =
    omega (arith, (taken_bounds c.args.slot c.requires.in_catalogue (field_taken c.args.slot c.args.raw c.requires)).0) in
    sym (kind_stays s.tick lazy)
    ∙ slot_kind was c.args.slot c.machine-place.result lazy c.self.invariant.0 c.requires.in_catalogue from c.machine-place.ensures.place
    c.index_mut-lazy.ensures.value

pub set-requires-clause-own : goal.set-requires-clause-own
set-requires-clause-own g c =
    let s = c.self.inside in
    let was : Going = going s.stimulus s.tick s.buses s.settings s.lazies.items s.first s.stood in
    let inside : c.machine-place.result < length s.lazies.items =
    any_inside was c.machine-place.result c.self.invariant.0 c.machine-place.ensures.few in
    let lazy : Lazy = c.index_mut-lazy.result.now in
    let sound : IsSound s.tick s.first lazy = lazy_sound was c.machine-place.result lazy c.self.invariant.0 inside c.index_mut-lazy.ensures.value in
    sound.own

pub set-requires-clause-at : goal.set-requires-clause-at
set-requires-clause-at g c =
    let s = c.self.inside in
    let was : Going = going s.stimulus s.tick s.buses s.settings s.lazies.items s.first s.stood in
    let inside : c.machine-place.result < length s.lazies.items =
    any_inside was c.machine-place.result c.self.invariant.0 c.machine-place.ensures.few in
    let lazy : Lazy = c.index_mut-lazy.result.now in
    let sound : IsSound s.tick s.first lazy = lazy_sound was c.machine-place.result lazy c.self.invariant.0 inside c.index_mut-lazy.ensures.value in
    sound.at

pub set-requires-clause-calm : goal.set-requires-clause-calm
set-requires-clause-calm g c =
    let s = c.self.inside in
    let was : Going = going s.stimulus s.tick s.buses s.settings s.lazies.items s.first s.stood in
    let inside : c.machine-place.result < length s.lazies.items =
    any_inside was c.machine-place.result c.self.invariant.0 c.machine-place.ensures.few in
    let lazy : Lazy = c.index_mut-lazy.result.now in
    let sound : IsSound s.tick s.first lazy = lazy_sound was c.machine-place.result lazy c.self.invariant.0 inside c.index_mut-lazy.ensures.value in
    sound.calm

pub invariant_of-self-2 : goal.invariant_of-self-2
invariant_of-self-2 g c =
    let s = c.self.inside in
    let was : Going = going s.stimulus s.tick s.buses s.settings s.lazies.items s.first s.stood in
    let lazy : Lazy = c.index_mut-lazy.result.now in
    let is : IsOne was c.machine-place.result lazy (block_of_slot c.args.slot) c.args.steps.now c.set.new.steps =
    record {
      kept = c.self.invariant.0;
      inside = any_inside was c.machine-place.result c.self.invariant.0 c.machine-place.ensures.few;
      named = c.machine-place.ensures.place;
      here = c.index_mut-lazy.ensures.value;
      one = c.set.ensures.one;
      none = c.set.ensures.none;
    } in (
      set_going was c.machine-place.result lazy c.args.slot c.args.raw c.args.steps.now c.set.new.steps is c.if-slot-eq-BLOCK.false c.set.new.self
          c.set.ensures.left,
      c.self.invariant.1,
    )

pub returns : goal.returns
returns g c =
    let s = c.self.inside in
    let was : Going = going s.stimulus s.tick s.buses s.settings s.lazies.items s.first s.stood in
    let new : Going = with_one was c.machine-place.result c.set.new.self s.settings true in
    let lazy : Lazy = c.index_mut-lazy.result.now in
    let is : IsOne was c.machine-place.result lazy (block_of_slot c.args.slot) c.args.steps.now c.set.new.steps =
    record {
      kept = c.self.invariant.0;
      inside = any_inside was c.machine-place.result c.self.invariant.0 c.machine-place.ensures.few;
      named = c.machine-place.ensures.place;
      here = c.index_mut-lazy.ensures.value;
      one = c.set.ensures.one;
      none = c.set.ensures.none;
    } in
    subst (λ (x : Going). IsLeft (changes.Set c.args.slot c.args.raw) x new c.args.steps.now c.set.new.steps) c.self.view_is
    (set_one was c.machine-place.result lazy c.args.slot c.args.raw c.args.steps.now c.set.new.steps is c.if-slot-eq-BLOCK.false c.set.new.self
    c.set.ensures.left)
