use Rattle.std.proofs.Common.{[], ◌++◌, take, ap, ◌∙◌, codes, arith}
use Rattle.base64.specs.Engines.{standard}
use Rattle.base64.specs.GeneralPurpose.{encode_of}
use Rattle.pb_replies.specs.Tables.{base64_lines}
use Rattle.pb_replies.proofs.ListedLemmas.{one_more, all_lines}
use Rattle.pb_replies.proofs.TableLemmas.{count_lines, line_there}
use Rattle.pb_replies.proofs.tables.base64_reply.Goals as goal

pub loop-i-preserved : goal.loop-i-preserved
loop-i-preserved c =
    let rows = c.args.rows.now in
    let i = c.loop-i.i in
    let size = count_lines rows in
    c.in_ok-list_base64.ensures
    ∙ one_more [] (base64_lines rows) i c.loop-i.text (encode_of standard (take c.line_bytes-count.result c.line_bytes-count.new.out)) (omega (arith, size))
    (ap (encode_of standard) c.line_bytes-count.ensures.copied ∙ line_there rows i (omega arith)) c.loop-i.invariant

pub returns : goal.returns
returns c =
    c.in_ok-end_list.ensures
    ∙ ap (λ t. t ++ codes ".\n")
    (c.loop-i.invariant ∙ all_lines [] (base64_lines c.args.rows.now) c.loop-i.i (omega (arith, count_lines c.args.rows.now, c.div_ceil-lines.ensures, c.len.ensures.len, c.loop-i-test.false)))
