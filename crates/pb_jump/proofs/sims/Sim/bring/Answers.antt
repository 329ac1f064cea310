use Rattle.std.proofs.Common.{◌<◌, length, subst, arith}
use Rattle.pb_model.specs.Machines.{name}
use Rattle.pb_lazy.specs.declared.Lazy.{Lazy}
use Rattle.pb_lazy.specs.Lazy.{IsSound}
use Rattle.pb_going.specs.Sims.{Going, going}
use Rattle.pb_jump.specs.Changing.{IsPeeked}
use Rattle.pb_jump.proofs.PlaceLemmas.{any_inside, lazy_sound}
use Rattle.pb_jump.proofs.DoneLemmas.{IsOne, with_one, peeked, peeked_going}
use Rattle.pb_jump.proofs.sims.Sim.bring.Goals as goal

pub index_mut-lazy-requires : goal.index_mut-lazy-requires
index_mut-lazy-requires g c =
    let s = c.self.inside in
    let was : Going = going s.stimulus s.tick s.buses s.settings s.lazies.items s.first s.stood in
    omega (arith, any_inside was c.machine-place.result c.self.invariant.0 c.machine-place.ensures.few)

pub catch_up-requires-clause-own : goal.catch_up-requires-clause-own
catch_up-requires-clause-own g c =
    let s = c.self.inside in
    let was : Going = going s.stimulus s.tick s.buses s.settings s.lazies.items s.first s.stood in
    let inside : c.machine-place.result < length s.lazies.items =
    any_inside was c.machine-place.result c.self.invariant.0 c.machine-place.ensures.few in
    let sound : IsSound s.tick s.first c.index_mut-lazy.result.now =
    lazy_sound was c.machine-place.result c.index_mut-lazy.result.now c.self.invariant.0 inside c.index_mut-lazy.ensures.value in
    sound.own

pub catch_up-requires-clause-calm : goal.catch_up-requires-clause-calm
catch_up-requires-clause-calm g c =
    let s = c.self.inside in
    let was : Going = going s.stimulus s.tick s.buses s.settings s.lazies.items s.first s.stood in
    let inside : c.machine-place.result < length s.lazies.items =
    any_inside was c.machine-place.result c.self.invariant.0 c.machine-place.ensures.few in
    let sound : IsSound s.tick s.first c.index_mut-lazy.result.now =
    lazy_sound was c.machine-place.result c.index_mut-lazy.result.now c.self.invariant.0 inside c.index_mut-lazy.ensures.value in
    sound.calm

pub invariant_of-self : goal.invariant_of-self
invariant_of-self g c =
    let s = c.self.inside in
    let was : Going = going s.stimulus s.tick s.buses s.settings s.lazies.items s.first s.stood in
    let lazy : Lazy = c.index_mut-lazy.result.now in
    let is : IsOne was c.machine-place.result lazy (name c.args.kind c.args.instance) c.args.steps.now c.catch_up.new.steps =
    record {
      kept = c.self.invariant.0;
      inside = any_inside was c.machine-place.result c.self.invariant.0 c.machine-place.ensures.few;
      named = c.machine-place.ensures.place;
      here = c.index_mut-lazy.ensures.value;
      one = c.catch_up.ensures.one;
      none = c.catch_up.ensures.none;
    } in (
      peeked_going was c.machine-place.result lazy (name c.args.kind c.args.instance) c.args.steps.now c.catch_up.new.steps is c.catch_up.new.self
          c.catch_up.ensures.left,
      c.self.invariant.1,
    )

pub returns : goal.returns
returns g c =
    let s = c.self.inside in
    let was : Going = going s.stimulus s.tick s.buses s.settings s.lazies.items s.first s.stood in
    let lazy : Lazy = c.index_mut-lazy.result.now in
    let new : Going = with_one was c.machine-place.result c.catch_up.new.self s.settings s.stood in
    let is : IsOne was c.machine-place.result lazy (name c.args.kind c.args.instance) c.args.steps.now c.catch_up.new.steps =
    record {
      kept = c.self.invariant.0;
      inside = any_inside was c.machine-place.result c.self.invariant.0 c.machine-place.ensures.few;
      named = c.machine-place.ensures.place;
      here = c.index_mut-lazy.ensures.value;
      one = c.catch_up.ensures.one;
      none = c.catch_up.ensures.none;
    } in
    subst (λ (x : Going). IsPeeked (name c.args.kind c.args.instance) x new c.args.steps.now c.catch_up.new.steps) c.self.view_is
    (peeked was c.machine-place.result lazy (name c.args.kind c.args.instance) c.args.steps.now c.catch_up.new.steps is c.catch_up.new.self
    c.catch_up.ensures.left)
