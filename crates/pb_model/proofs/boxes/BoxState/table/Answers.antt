use Rattle.std.proofs.Common.{get_or, ap, ◌∙◌, arith}
use Rattle.pb_model.specs.declared.blocks.Block.{Block}
use Rattle.pb_model.specs.Units.{words_of}
use Rattle.pb_model.specs.Tick.{kind_of}
use Rattle.pb_model.specs.Kept.{Kept}
use Rattle.pb_model.specs.Tables.{table_of}
use Rattle.pb_model.proofs.TableLemmas.{two_sequencers, sequencer_inside, sequencer_there, table_is}
use Rattle.pb_model.proofs.boxes.BoxState.table.Goals as goal

pub machine-place-requires-clause-in_count : goal.machine-place-requires-clause-in_count
machine-place-requires-clause-in_count c = omega (arith, two_sequencers, c.requires.in_count)

pub index-requires : goal.index-requires
index-requires c =
    omega (
      arith,
      c.machine-place.ensures.place,
      sequencer_inside c.self.inside.blocks.items c.args.instance c.self.invariant.kinds c.requires.from_one c.requires.in_count,
    )

pub rows-requires : goal.rows-requires
rows-requires c =
    ap kind_of c.index.ensures
    ∙ (ap (λ n. kind_of (get_or c.self.inside.blocks.items n c.index.result.now)) c.machine-place.ensures.place
    ∙ sequencer_there c.self.inside.blocks.items c.args.instance c.index.result.now c.self.invariant.kinds c.requires.from_one c.requires.in_count)

pub returns : goal.returns
returns c =
    c.rows.ensures
    ∙ (ap (λ (b : Block). words_of b.unit) c.index.ensures
    ∙ (ap (λ n. words_of (get_or c.self.inside.blocks.items n c.index.result.now).unit) c.machine-place.ensures.place
    ∙ (table_is c.self.inside.blocks.items c.args.instance c.index.result.now c.self.invariant.kinds c.requires.from_one c.requires.in_count
    ∙ ap (λ (k : Kept). table_of k.blocks c.args.instance) c.self.view_is)))
