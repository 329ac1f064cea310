use Rattle.std.proofs.Common.{get_or, sym, ap, ◌∙◌, arith}
use Rattle.pb_model.specs.declared.blocks.Block.{Block}
use Rattle.pb_model.specs.Units.{is_idle, disarmed}
use Rattle.pb_model.specs.Tick.{kind_of}
use Rattle.pb_model.specs.Kept.{Kept}
use Rattle.pb_model.specs.Arming.{is_capture_idle, with_unit, blocks_disarmed, kept_with_blocks}
use Rattle.pb_model.proofs.ArmLemmas.{place_of_capture, one_capture, capture_inside, capture_there, idle_there, capture_stays, set_capture, disarming_keeps, disarmed_is_idle}
use Rattle.pb_model.proofs.boxes.BoxState.disarm.Goals as goal

pub machine-place-requires-clause-in_count : goal.machine-place-requires-clause-in_count
machine-place-requires-clause-in_count c = omega (arith, one_capture)

pub index_mut-block-requires : goal.index_mut-block-requires
index_mut-block-requires c =
    omega (arith, c.machine-place.ensures.place, place_of_capture, capture_inside c.self.inside.blocks.items c.self.invariant.kinds)

pub disarm-requires-clause-kind : goal.disarm-requires-clause-kind
disarm-requires-clause-kind c =
    let block : Block = c.index_mut-block.result.now in
    ap kind_of c.index_mut-block.ensures.value
    ∙ (ap (λ n. kind_of (get_or c.self.inside.blocks.items n block)) (c.machine-place.ensures.place ∙ place_of_capture)
    ∙ capture_there c.self.inside.blocks.items block c.self.invariant.kinds)

pub disarm-requires-clause-busy : goal.disarm-requires-clause-busy
disarm-requires-clause-busy c =
    let block : Block = c.index_mut-block.result.now in
    ap (λ (b : Block). is_idle b.unit) c.index_mut-block.ensures.value
    ∙ (ap (λ n. is_idle (get_or c.self.inside.blocks.items n block).unit) (c.machine-place.ensures.place ∙ place_of_capture)
    ∙ (sym (idle_there c.self.inside.blocks.items block c.self.invariant.kinds)
    ∙ (ap (λ (k : Kept). is_capture_idle k.blocks) c.self.view_is ∙ c.requires)))

pub invariant_of-self : goal.invariant_of-self
invariant_of-self c =
    capture_stays c.self.inside.blocks.items c.self.inside.settings disarmed c.machine-place.result c.disarm.new.self
    c.index_mut-block.result.now c.self.invariant disarming_keeps
    (c.disarm.ensures ∙ ap (with_unit disarmed) c.index_mut-block.ensures.value)

pub returns : goal.returns
returns c =
    let kept : Kept = record {
      tick = c.self.inside.tick;
      buses = c.self.inside.buses;
      settings = c.self.inside.settings;
      blocks = c.self.inside.blocks.items;
    } in
    let left =
    set_capture kept disarmed c.machine-place.result c.disarm.new.self c.index_mut-block.result.now c.self.invariant
    c.machine-place.ensures.place
    (c.disarm.ensures ∙ ap (with_unit disarmed) c.index_mut-block.ensures.value) in
    record {
      left = left ∙ ap (λ (k : Kept). kept_with_blocks k (blocks_disarmed k.blocks)) c.self.view_is;
      idle = ap (λ (k : Kept). is_capture_idle k.blocks) left ∙ disarmed_is_idle c.self.inside.blocks.items c.self.invariant.kinds;
    }
