use Rattle.std.proofs.Common.{ℕ, get_or, sym, ap, ◌∙◌, arith}
use Rattle.pb_buses.specs.declared.Bus.{Bus}
use Rattle.pb_buses.specs.Rules.{is_record}
use Rattle.pb_model.specs.declared.blocks.Block.{Block}
use Rattle.pb_model.specs.Tick.{emitted_of, emitted_by}
use Rattle.pb_model.specs.Kept.{Kept, stands_of}
use Rattle.pb_model.proofs.ArmLemmas.{place_of_capture, one_capture, capture_inside, emitted_is}
use Rattle.pb_model.proofs.boxes.BoxState.emits.Goals as goal

pub machine-place-requires-clause-in_count : goal.machine-place-requires-clause-in_count
machine-place-requires-clause-in_count c = omega (arith, one_capture)

pub index-block-requires : goal.index-block-requires
index-block-requires c =
    omega (arith, c.machine-place.ensures.place, place_of_capture, capture_inside c.self.inside.blocks.items c.self.invariant.kinds)

pub returns : goal.returns
returns c =
    let block : Block = c.index-block.result.now in
    let bus : Bus = c.self.inside.buses.bus in
    let tick : ℕ = c.self.inside.tick in
    let blocks = c.self.inside.blocks.items in
    c.emits.ensures tick
    ∙ (ap (λ (b : Block). is_record (emitted_by bus tick b)) c.index-block.ensures
    ∙ (ap (λ n. is_record (emitted_by bus tick (get_or blocks n block))) (c.machine-place.ensures.place ∙ place_of_capture)
    ∙ (ap is_record (sym (emitted_is bus tick blocks block c.self.invariant.kinds))
    ∙ ap (λ (k : Kept). is_record (emitted_of (stands_of k))) c.self.view_is)))
