use Rattle.std.proofs.Common.{◌++◌, take}
use Rattle.pb_grammar.proofs.LineLemmas.{fed_all, fed_more, text_completes_none}
use Rattle.pb_grammar.proofs.assembling.Assembler.feed_each.Goals as goal

pub loop-b-preserved : goal.loop-b-preserved
loop-b-preserved c seen h =
    let text = c.args.text.now in
    let i = c.loop-b.b-index in
    let fed = c.loop-b.invariant seen h in
    fed_more c.feed.new.self seen text i 0 c.loop-b-test.true
    (c.feed.ensures.begun (seen ++ take i text) fed (λ is. text_completes_none (seen ++ take i text) _ (c.requires i 0 c.loop-b-test.true) ((c.feed.ensures.completes (seen ++ take i text) fed).0 is)))

pub returns : goal.returns
returns c seen h = fed_all c.loop-b.self seen c.args.text.now c.loop-b.b-index c.loop-b-test.false (c.loop-b.invariant seen h)
