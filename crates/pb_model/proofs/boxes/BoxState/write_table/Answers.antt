use Rattle.std.proofs.Common.{◌≡◌, List, ℕ, get_or, ap, ◌∙◌, arith, Result}
use Rattle.pb_words.specs.declared.Refusal.{Refusal}
use Rattle.pb_tables.specs.Computed.{written, answer_of}
use Rattle.pb_model.specs.declared.blocks.Block.{Block}
use Rattle.pb_model.specs.Units.{words_of}
use Rattle.pb_model.specs.Tick.{kind_of}
use Rattle.pb_model.specs.Kept.{Kept}
use Rattle.pb_model.specs.Tables.{table_of, block_left, table_left}
use Rattle.pb_model.specs.Arming.{is_capture_idle}
use Rattle.pb_model.proofs.ArmLemmas.{left_idle}
use Rattle.pb_model.proofs.TableLemmas.{two_sequencers, sequencer_inside, sequencer_there, table_is, left_stays, set_table, refused_same}
use Rattle.pb_model.proofs.boxes.BoxState.write_table.Goals as goal

pub machine-place-requires-clause-in_count : goal.machine-place-requires-clause-in_count
machine-place-requires-clause-in_count c = omega (arith, two_sequencers, c.requires.in_count)

pub index_mut-block-requires : goal.index_mut-block-requires
index_mut-block-requires c =
    omega (
      arith,
      c.machine-place.ensures.place,
      sequencer_inside c.self.inside.blocks.items c.args.instance c.self.invariant.kinds c.requires.from_one c.requires.in_count,
    )

pub write-requires : goal.write-requires
write-requires c =
    ap kind_of c.index_mut-block.ensures.value
    ∙ (ap (λ n. kind_of (get_or c.self.inside.blocks.items n c.index_mut-block.result.now)) c.machine-place.ensures.place
    ∙ sequencer_there c.self.inside.blocks.items c.args.instance c.index_mut-block.result.now c.self.invariant.kinds c.requires.from_one c.requires.in_count)

pub invariant_of-self : goal.invariant_of-self
invariant_of-self c =
    let block : Block = c.index_mut-block.result.now in
    let left : Result (List ℕ) Refusal = written (words_of block.unit) c.args.append c.args.base64 c.args.body.now in
    left_stays c.self.inside.blocks.items c.self.inside.settings c.machine-place.result c.write.new.self block left c.self.invariant
    (c.write.ensures.left ∙ ap (λ b. block_left b left) c.index_mut-block.ensures.value)

pub returns : goal.returns
returns c =
    let block : Block = c.index_mut-block.result.now in
    let number = c.args.instance in
    let append = c.args.append in
    let base64 = c.args.base64 in
    let body = c.args.body.now in
    let kept : Kept = record {
      tick = c.self.inside.tick;
      buses = c.self.inside.buses;
      settings = c.self.inside.settings;
      blocks = c.self.inside.blocks.items;
    } in
    let words : words_of block.unit ≡ table_of kept.blocks number =
    ap (λ (b : Block). words_of b.unit) c.index_mut-block.ensures.value
    ∙ (ap (λ n. words_of (get_or c.self.inside.blocks.items n block).unit) c.machine-place.ensures.place
    ∙ table_is c.self.inside.blocks.items number block c.self.invariant.kinds c.requires.from_one c.requires.in_count) in
    let told = c.write.ensures.told
    ∙ (ap (λ ws. answer_of (written ws append base64 body)) words
    ∙ ap (λ (k : Kept). answer_of (written (table_of k.blocks number) append base64 body)) c.self.view_is) in
    let left =
    set_table kept number c.machine-place.result c.write.new.self block (written (words_of block.unit) append base64 body) c.self.invariant
    c.machine-place.ensures.place
    (c.write.ensures.left ∙ ap (λ b. block_left b (written (words_of block.unit) append base64 body)) c.index_mut-block.ensures.value)
    ∙ (ap (λ ws. table_left kept number (written ws append base64 body)) words
    ∙ ap (λ (k : Kept). table_left k number (written (table_of k.blocks number) append base64 body)) c.self.view_is) in
    record {
      told = told;
      left = left;
      same = refused_same c.write.result _ _ _ number told left;
      idle = ap (λ (k : Kept). is_capture_idle k.blocks) left ∙ left_idle c.args.self.now number (written (table_of c.args.self.now.blocks number) append base64 body);
    }
