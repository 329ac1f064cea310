use Rattle.std.proofs.Common.{[], length, ap, ◌∙◌, arith}
use Rattle.std.proofs.lemmas.List.{length-map}
use Rattle.pb_fields.proofs.RowLemmas.{row_at}
use Rattle.pb_replies.specs.Lists.{row_lines}
use Rattle.pb_replies.proofs.ListedLemmas.{one_more}
use Rattle.pb_replies.proofs.lists.row_reply.Goals as goal

pub loop-field-preserved : goal.loop-field-preserved
loop-field-preserved c =
    let rows = c.row_fields-field-items.result.now in
    let i = c.loop-field.field-index in
    let here = row_at (λ t. t.now) rows row_lines i (record { ref_ptr = (0, 0); now = [] }) [] c.row_fields-field-items.ensures c.loop-field-test.true in
    let size = length-map rows (λ t. t.now) in
    c.in_ok-list.ensures
    ∙ one_more [] row_lines i c.loop-field.text _ (omega (arith, size, ap length c.row_fields-field-items.ensures)) here c.loop-field.invariant
