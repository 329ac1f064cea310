use Rattle.pb_words.proofs.CutLemmas.{bare_kept, bare_skipped}
use Rattle.pb_words.proofs.cuts.take_out_spaces.Goals as goal
use Rattle.pb_words.proofs.cuts.take_out_spaces.Goals.{then-b-ne32, else-b-ne32}

pub loop-b-preserved : goal.loop-b-preserved
loop-b-preserved c =
    elim c.if-b-ne32.branch [
      | then-b-ne32 w ↦ rw (w.out-is, w.n-is) (bare_kept c.args.text.now c.args.out.now c.loop-b.out c.loop-b.n c.loop-b.b-index c.loop-b-test.true c.requires w.if-b-ne32.true c.loop-b.invariant)
      | else-b-ne32 w ↦ rw (w.out-is, w.n-is) (bare_skipped c.args.text.now c.args.out.now c.loop-b.out c.loop-b.n c.loop-b.b-index c.loop-b-test.true w.if-b-ne32.false c.loop-b.invariant)
    ]
