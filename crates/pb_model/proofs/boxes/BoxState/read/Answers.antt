use Rattle.std.proofs.Common.{get_or, ap, ◌∙◌, arith}
use Rattle.pb_model.specs.declared.blocks.Block.{Block}
use Rattle.pb_model.specs.Units.{value_read}
use Rattle.pb_model.specs.Tick.{kind_of}
use Rattle.pb_model.specs.Kept.{Kept}
use Rattle.pb_model.specs.Settings.{read_of}
use Rattle.pb_model.proofs.SettingLemmas.{read_block}
use Rattle.pb_model.proofs.UnitLemmas.{place_inside, kind_named, read_is}
use Rattle.pb_model.proofs.boxes.BoxState.read.Goals as goal

pub machine-place-requires-clause-from_lut : goal.machine-place-requires-clause-from_lut
machine-place-requires-clause-from_lut c = read_block c.args.slot c.requires.slot c.requires.read

pub index-requires : goal.index-requires
index-requires c =
    omega (
      arith,
      c.machine-place.ensures.place,
      place_inside c.self.inside.blocks.items c.args.slot c.self.invariant.kinds c.requires.slot
          (read_block c.args.slot c.requires.slot c.requires.read),
    )

pub read-requires-clause-kind : goal.read-requires-clause-kind
read-requires-clause-kind c =
    ap kind_of c.index.ensures
    ∙ (ap (λ n. kind_of (get_or c.self.inside.blocks.items n c.index.result.now)) c.machine-place.ensures.place
    ∙ kind_named c.self.inside.blocks.items c.args.slot c.index.result.now c.self.invariant.kinds c.requires.slot
    (read_block c.args.slot c.requires.slot c.requires.read))

pub returns-clause-value : goal.returns-clause-value
returns-clause-value c =
    let kept : Kept = record {
      tick = c.self.inside.tick;
      buses = c.self.inside.buses;
      settings = c.self.inside.settings;
      blocks = c.self.inside.blocks.items;
    } in
    c.read.ensures.value
    ∙ (ap (λ (b : Block). value_read b.unit c.args.slot.field) c.index.ensures
    ∙ (read_is kept c.args.slot c.machine-place.result c.index.result.now c.self.invariant c.requires.slot
    (read_block c.args.slot c.requires.slot c.requires.read) c.machine-place.ensures.place
    ∙ ap (λ (k : Kept). read_of k.blocks c.args.slot) c.self.view_is))
