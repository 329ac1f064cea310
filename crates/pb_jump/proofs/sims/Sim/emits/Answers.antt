use Rattle.std.proofs.Common.{◌<◌, length, ap, ◌∙◌, arith}
use Rattle.pb_buses.specs.Rules.{is_record}
use Rattle.pb_model.specs.Tick.{emitted_of}
use Rattle.pb_model.specs.Kept.{stands_of}
use Rattle.pb_model.proofs.ArmLemmas.{one_capture}
use Rattle.pb_going.specs.Sims.{Going, going, now_of}
use Rattle.pb_jump.proofs.PlaceLemmas.{capture_in, lazy_sound}
use Rattle.pb_jump.proofs.SteppingLemmas.{emits_now}
use Rattle.pb_jump.proofs.sims.Sim.emits.Goals as goal

pub machine-place-requires-clause-in_count : goal.machine-place-requires-clause-in_count
machine-place-requires-clause-in_count c = omega (arith, one_capture)

pub index-lazy-requires : goal.index-lazy-requires
index-lazy-requires c =
    let s = c.self.inside in
    let was : Going = going s.stimulus s.tick s.buses s.settings s.lazies.items s.first s.stood in
    omega (arith, c.machine-place.ensures.place, capture_in was c.self.invariant.0)

pub look-inputs-requires : goal.look-inputs-requires
look-inputs-requires c =
    let s = c.self.inside in
    let was : Going = going s.stimulus s.tick s.buses s.settings s.lazies.items s.first s.stood in
    let inside : c.machine-place.result < length s.lazies.items = omega (arith, c.machine-place.ensures.place, capture_in was c.self.invariant.0) in
    (lazy_sound was c.machine-place.result c.index-lazy.result.now c.self.invariant.0 inside c.index-lazy.ensures).at

pub returns : goal.returns
returns c =
    let s = c.self.inside in
    let was : Going = going s.stimulus s.tick s.buses s.settings s.lazies.items s.first s.stood in
    emits_now was c.machine-place.result c.index-lazy.result.now c.look-inputs.result c.emits.result c.self.invariant.0 c.machine-place.ensures.place
    c.index-lazy.ensures c.look-inputs.ensures c.emits.ensures
    ∙ ap (λ (x : Going). is_record (emitted_of (stands_of (now_of x)))) c.self.view_is
