use Rattle.std.proofs.Common.{◌<◌, true, length, sym, ap, subst, ◌∙◌, arith}
use Rattle.pb_model.specs.declared.Change.TheVariants as changes
use Rattle.pb_model.specs.Arming.{capture, is_capture_idle}
use Rattle.pb_model.proofs.ArmLemmas.{one_capture}
use Rattle.pb_lazy.specs.declared.Lazy.{Lazy}
use Rattle.pb_lazy.specs.Lazy.{IsSound}
use Rattle.pb_lazy.proofs.LazyLemmas.{kind_stays}
use Rattle.pb_going.specs.Sims.{Going, going, now_of}
use Rattle.pb_jump.specs.Changing.{IsLeft}
use Rattle.pb_jump.proofs.PlaceLemmas.{any_inside, lazy_sound, capture_kind, capture_idle}
use Rattle.pb_jump.proofs.DoneLemmas.{IsOne, with_one, arm_one, arm_going}
use Rattle.pb_jump.proofs.sims.Sim.arm.Goals as goal

pub machine-place-requires-clause-in_count : goal.machine-place-requires-clause-in_count
machine-place-requires-clause-in_count g c = omega (arith, one_capture)

pub index_mut-lazy-requires : goal.index_mut-lazy-requires
index_mut-lazy-requires g c =
    let s = c.self.inside in
    let was : Going = going s.stimulus s.tick s.buses s.settings s.lazies.items s.first s.stood in
    omega (arith, any_inside was c.machine-place.result c.self.invariant.0 c.machine-place.ensures.few)

pub arm-requires-clause-kind : goal.arm-requires-clause-kind
arm-requires-clause-kind g c =
    let s = c.self.inside in
    let was : Going = going s.stimulus s.tick s.buses s.settings s.lazies.items s.first s.stood in
    let inside : c.machine-place.result < length s.lazies.items =
    any_inside was c.machine-place.result c.self.invariant.0 c.machine-place.ensures.few in
    let lazy : Lazy = c.index_mut-lazy.result.now in
    let sound : IsSound s.tick s.first lazy = lazy_sound was c.machine-place.result lazy c.self.invariant.0 inside c.index_mut-lazy.ensures.value in
    sym (kind_stays s.tick lazy)
    ∙ capture_kind was c.machine-place.result lazy c.self.invariant.0 c.machine-place.ensures.place c.index_mut-lazy.ensures.value

pub arm-requires-clause-idle : goal.arm-requires-clause-idle
arm-requires-clause-idle g c =
    let s = c.self.inside in
    let was : Going = going s.stimulus s.tick s.buses s.settings s.lazies.items s.first s.stood in
    let inside : c.machine-place.result < length s.lazies.items =
    any_inside was c.machine-place.result c.self.invariant.0 c.machine-place.ensures.few in
    let lazy : Lazy = c.index_mut-lazy.result.now in
    let sound : IsSound s.tick s.first lazy = lazy_sound was c.machine-place.result lazy c.self.invariant.0 inside c.index_mut-lazy.ensures.value in
    capture_idle was c.machine-place.result lazy c.self.invariant.0 c.machine-place.ensures.place c.index_mut-lazy.ensures.value
    ∙ (ap (λ (x : Going). is_capture_idle (now_of x).blocks) c.self.view_is ∙ c.requires)

pub arm-requires-clause-own : goal.arm-requires-clause-own
arm-requires-clause-own g c =
    let s = c.self.inside in
    let was : Going = going s.stimulus s.tick s.buses s.settings s.lazies.items s.first s.stood in
    let inside : c.machine-place.result < length s.lazies.items =
    any_inside was c.machine-place.result c.self.invariant.0 c.machine-place.ensures.few in
    let lazy : Lazy = c.index_mut-lazy.result.now in
    let sound : IsSound s.tick s.first lazy = lazy_sound was c.machine-place.result lazy c.self.invariant.0 inside c.index_mut-lazy.ensures.value in
    sound.own

pub arm-requires-clause-calm : goal.arm-requires-clause-calm
arm-requires-clause-calm g c =
    let s = c.self.inside in
    let was : Going = going s.stimulus s.tick s.buses s.settings s.lazies.items s.first s.stood in
    let inside : c.machine-place.result < length s.lazies.items =
    any_inside was c.machine-place.result c.self.invariant.0 c.machine-place.ensures.few in
    let lazy : Lazy = c.index_mut-lazy.result.now in
    let sound : IsSound s.tick s.first lazy = lazy_sound was c.machine-place.result lazy c.self.invariant.0 inside c.index_mut-lazy.ensures.value in
    sound.calm

pub invariant_of-self : goal.invariant_of-self
invariant_of-self g c =
    let s = c.self.inside in
    let was : Going = going s.stimulus s.tick s.buses s.settings s.lazies.items s.first s.stood in
    let lazy : Lazy = c.index_mut-lazy.result.now in
    let is : IsOne was c.machine-place.result lazy capture c.args.steps.now c.arm.new.steps =
    record {
      kept = c.self.invariant.0;
      inside = any_inside was c.machine-place.result c.self.invariant.0 c.machine-place.ensures.few;
      named = c.machine-place.ensures.place;
      here = c.index_mut-lazy.ensures.value;
      one = c.arm.ensures.one;
      none = c.arm.ensures.none;
    } in (
      arm_going was c.args.room c.machine-place.result lazy c.args.steps.now c.arm.new.steps is c.arm.new.self c.arm.ensures.left,
      c.self.invariant.1,
    )

pub returns : goal.returns
returns g c =
    let s = c.self.inside in
    let was : Going = going s.stimulus s.tick s.buses s.settings s.lazies.items s.first s.stood in
    let new : Going = with_one was c.machine-place.result c.arm.new.self s.settings true in
    let lazy : Lazy = c.index_mut-lazy.result.now in
    let is : IsOne was c.machine-place.result lazy capture c.args.steps.now c.arm.new.steps =
    record {
      kept = c.self.invariant.0;
      inside = any_inside was c.machine-place.result c.self.invariant.0 c.machine-place.ensures.few;
      named = c.machine-place.ensures.place;
      here = c.index_mut-lazy.ensures.value;
      one = c.arm.ensures.one;
      none = c.arm.ensures.none;
    } in
    subst (λ (x : Going). IsLeft (changes.Arm c.args.room) x new c.args.steps.now c.arm.new.steps) c.self.view_is
    (arm_one was c.args.room c.machine-place.result lazy c.args.steps.now c.arm.new.steps is c.arm.new.self c.arm.ensures.left)
