use Rattle.std.proofs.Common.{◌≤◌, get_or, ap, ◌∙◌, arith}
use Rattle.pb_names.specs.declared.lut.TheConstants as lut
use Rattle.pb_model.specs.Tick.{kind_of}
use Rattle.pb_model.specs.Kept.{Kept}
use Rattle.pb_model.specs.Settings.{with_value, with_setting}
use Rattle.pb_model.proofs.SettingLemmas.{field_taken, taken_bounds}
use Rattle.pb_model.proofs.UnitLemmas.{place_inside, kind_named, set_stays, set_block}
use Rattle.pb_model.proofs.boxes.BoxState.set.Goals as goal

pub bounds-self-inside-slot : goal.bounds-self-inside-slot
bounds-self-inside-slot c =
    (taken_bounds c.args.slot c.requires.in_catalogue (field_taken c.args.slot c.args.raw c.requires)).1 c.if-slot-eq-BLOCK.true

pub machine-place-requires-clause-from_lut : goal.machine-place-requires-clause-from_lut
machine-place-requires-clause-from_lut c =
    omega (arith, (taken_bounds c.args.slot c.requires.in_catalogue (field_taken c.args.slot c.args.raw c.requires)).0)

pub index_mut-block-requires : goal.index_mut-block-requires
index_mut-block-requires c =
    let from : lut.BLOCK ≤ c.args.slot.block =
    omega (arith, (taken_bounds c.args.slot c.requires.in_catalogue (field_taken c.args.slot c.args.raw c.requires)).0) in
    omega (
      arith,
      c.machine-place.ensures.place,
      place_inside c.self.inside.blocks.items c.args.slot c.self.invariant.kinds c.requires.in_catalogue from,
    )

pub set-requires-clause-kind : goal.set-requires-clause-kind
set-requires-clause-kind c =
    let from : lut.BLOCK ≤ c.args.slot.block =
    omega (arith, (taken_bounds c.args.slot c.requires.in_catalogue (field_taken c.args.slot c.args.raw c.requires)).0) in
    ap kind_of c.index_mut-block.ensures.value
    ∙ (ap (λ n. kind_of (get_or c.self.inside.blocks.items n c.index_mut-block.result.now)) c.machine-place.ensures.place
    ∙ kind_named c.self.inside.blocks.items c.args.slot c.index_mut-block.result.now c.self.invariant.kinds c.requires.in_catalogue from)

pub invariant_of-self-else-slot-eq-BLOCK : goal.invariant_of-self-else-slot-eq-BLOCK
invariant_of-self-else-slot-eq-BLOCK c =
    set_stays c.self.inside.blocks.items c.self.inside.settings c.args.slot c.args.raw c.machine-place.result c.set.new.self
    c.index_mut-block.result.now c.self.invariant
    (c.set.ensures ∙ ap (with_value c.args.slot c.args.raw) c.index_mut-block.ensures.value)

pub returns-else-slot-eq-BLOCK : goal.returns-else-slot-eq-BLOCK
returns-else-slot-eq-BLOCK c =
    let kept : Kept = record {
      tick = c.self.inside.tick;
      buses = c.self.inside.buses;
      settings = c.self.inside.settings;
      blocks = c.self.inside.blocks.items;
    } in
    set_block kept c.args.slot c.args.raw c.machine-place.result c.set.new.self c.index_mut-block.result.now c.self.invariant
    c.if-slot-eq-BLOCK.false c.machine-place.ensures.place
    (c.set.ensures ∙ ap (with_value c.args.slot c.args.raw) c.index_mut-block.ensures.value)
    ∙ ap (λ k. with_setting k c.args.slot c.args.raw) c.self.view_is
