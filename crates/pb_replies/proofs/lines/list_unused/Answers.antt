use Rattle.std.proofs.Common.{ℕ, List, [], replicate, sym, ◌∙◌, arith}
use Rattle.std.proofs.lemmas.List.{length-replicate, get_or-replicate}
use Rattle.pb_replies.proofs.ListedLemmas.{one_more}
use Rattle.pb_replies.proofs.lines.list_unused.Goals as goal

pub loop-preserved : goal.loop-preserved
loop-preserved c =
    let size = length-replicate {A = List ℕ} c.args.count [] in
    c.in_ok-list.ensures
    ∙ one_more c.args.text.now (replicate c.args.count []) c.loop.counter c.loop.text [] (omega (arith, size)) (sym (get_or-replicate c.args.count c.loop.counter [] [] c.loop-test.true)) c.loop.invariant
