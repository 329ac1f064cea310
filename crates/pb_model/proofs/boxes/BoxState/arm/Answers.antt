use Rattle.std.proofs.Common.{get_or, sym, ap, ◌∙◌, arith}
use Rattle.pb_model.specs.declared.blocks.Block.{Block}
use Rattle.pb_model.specs.Units.{is_idle, armed}
use Rattle.pb_model.specs.Tick.{kind_of}
use Rattle.pb_model.specs.Kept.{Kept}
use Rattle.pb_model.specs.Arming.{is_capture_idle, with_unit, blocks_armed, kept_with_blocks}
use Rattle.pb_model.proofs.ArmLemmas.{place_of_capture, one_capture, capture_inside, capture_there, idle_there, capture_stays, set_capture, arming_keeps, armed_is_busy}
use Rattle.pb_model.proofs.boxes.BoxState.arm.Goals as goal

pub machine-place-requires-clause-in_count : goal.machine-place-requires-clause-in_count
machine-place-requires-clause-in_count c = omega (arith, one_capture)

pub index_mut-block-requires : goal.index_mut-block-requires
index_mut-block-requires c =
    omega (arith, c.machine-place.ensures.place, place_of_capture, capture_inside c.self.inside.blocks.items c.self.invariant.kinds)

pub arm-requires-clause-kind : goal.arm-requires-clause-kind
arm-requires-clause-kind c =
    let block : Block = c.index_mut-block.result.now in
    ap kind_of c.index_mut-block.ensures.value
    ∙ (ap (λ n. kind_of (get_or c.self.inside.blocks.items n block)) (c.machine-place.ensures.place ∙ place_of_capture)
    ∙ capture_there c.self.inside.blocks.items block c.self.invariant.kinds)

pub arm-requires-clause-idle : goal.arm-requires-clause-idle
arm-requires-clause-idle c =
    let block : Block = c.index_mut-block.result.now in
    ap (λ (b : Block). is_idle b.unit) c.index_mut-block.ensures.value
    ∙ (ap (λ n. is_idle (get_or c.self.inside.blocks.items n block).unit) (c.machine-place.ensures.place ∙ place_of_capture)
    ∙ (sym (idle_there c.self.inside.blocks.items block c.self.invariant.kinds)
    ∙ (ap (λ (k : Kept). is_capture_idle k.blocks) c.self.view_is ∙ c.requires)))

pub invariant_of-self : goal.invariant_of-self
invariant_of-self c =
    capture_stays c.self.inside.blocks.items c.self.inside.settings (armed c.args.room) c.machine-place.result c.arm.new.self
    c.index_mut-block.result.now c.self.invariant (arming_keeps c.args.room)
    (c.arm.ensures ∙ ap (with_unit (armed c.args.room)) c.index_mut-block.ensures.value)

pub returns : goal.returns
returns c =
    let kept : Kept = record {
      tick = c.self.inside.tick;
      buses = c.self.inside.buses;
      settings = c.self.inside.settings;
      blocks = c.self.inside.blocks.items;
    } in
    let left =
    set_capture kept (armed c.args.room) c.machine-place.result c.arm.new.self c.index_mut-block.result.now c.self.invariant
    c.machine-place.ensures.place
    (c.arm.ensures ∙ ap (with_unit (armed c.args.room)) c.index_mut-block.ensures.value) in
    record {
      left = left ∙ ap (λ (k : Kept). kept_with_blocks k (blocks_armed c.args.room k.blocks)) c.self.view_is;
      idle = ap (λ (k : Kept). is_capture_idle k.blocks) left ∙ armed_is_busy c.self.inside.blocks.items c.args.room c.self.invariant.kinds;
    }
