use Rattle.std.proofs.Common.{[], sym, ap, ◌∙◌, decimal, arith}
use Rattle.std.proofs.lemmas.List.{length-map, get_or-map}
use Rattle.pb_replies.specs.Tables.{table_lines}
use Rattle.pb_replies.proofs.ListedLemmas.{one_more}
use Rattle.pb_replies.proofs.tables.table_reply.Goals as goal

pub loop-i-preserved : goal.loop-i-preserved
loop-i-preserved c =
    let rows = c.args.rows.now in
    let i = c.loop-i.i in
    let size = length-map rows decimal in
    c.in_ok-list_word.ensures
    ∙ one_more [] (table_lines rows) i c.loop-i.text (decimal c.word.result) (omega (arith, size)) (ap decimal c.word.ensures ∙ sym (get_or-map decimal rows i 0 [] (omega arith))) c.loop-i.invariant
