use Rattle.std.proofs.Common.{◌≡◌, ℕ, take, refl, arith}
use Rattle.std.proofs.Math.ListN.{length-set}
use Rattle.std.proofs.lemmas.List.{take_all}
use Rattle.pb_tables.proofs.ChunkLemmas.{no_letters, letter_waits, letter_first, letters_behind}
use Rattle.pb_tables.specs.Bodies.{letters}
use Rattle.pb_tables.proofs.drafts.Draft.read_base64.Goals as goal

pub loop-b-init : goal.loop-b-init
loop-b-init c = record { seen = no_letters _ (record { counted = refl; held = refl }); few = omega arith; sized = refl; counted = omega arith }

pub loop-b-preserved-then-n-lt16 : goal.loop-b-preserved-then-n-lt16
loop-b-preserved-then-n-lt16 c =
    record {
      seen = letter_waits c.loop-b.self c.args.body.now c.loop-b.chunk c.loop-b.b-index c.loop-b.n c.loop-b-test.true c.if-b-eq10.false (omega arith) c.loop-b.invariant.seen;
      few = omega arith;
      sized = omega (arith, length-set {A = ℕ});
      counted = omega arith;
    }

pub returns-then-not-add_chunk-clause-err : goal.returns-then-not-add_chunk-clause-err
returns-then-not-add_chunk-clause-err c =
    let parts = letters_behind c.args.body.now c.loop-b.b-index c.loop-b-test.true c.if-b-eq10.false in
    let whole : take c.loop-b.n c.loop-b.chunk ≡ c.loop-b.chunk = take_all c.loop-b.n c.loop-b.chunk (omega arith) in
    c.if-not-add_chunk.ensures.added (letters (take c.loop-b.b-index c.args.body.now)) _ c.args.body.now (rw whole at c.loop-b.invariant.seen) parts.0 parts.1

pub loop-b-preserved : goal.loop-b-preserved
loop-b-preserved c =
    let whole : take c.loop-b.n c.loop-b.chunk ≡ c.loop-b.chunk = take_all c.loop-b.n c.loop-b.chunk (omega arith) in
    let added = c.if-not-add_chunk.ensures.added (letters (take c.loop-b.b-index c.args.body.now)) (rw whole at c.loop-b.invariant.seen) in
    record {
      seen = letter_first c.add_chunk.new.self c.args.body.now c.loop-b.chunk c.loop-b.b-index c.loop-b-test.true c.if-b-eq10.false (omega arith) added;
      few = omega arith;
      sized = omega (arith, length-set {A = ℕ});
      counted = omega (arith, c.if-not-add_chunk.ensures.count);
    }

pub returns-clause-ok : goal.returns-clause-ok
returns-clause-ok c =
    let all : take c.loop-b.b-index c.args.body.now ≡ c.args.body.now = take_all c.loop-b.b-index c.args.body.now (omega arith) in
    c.add_last.ensures.ok c.args.body.now (rw all at c.loop-b.invariant.seen)
