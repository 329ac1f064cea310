use Rattle.std.proofs.Common.{arith}
use Rattle.pb_encode.specs.Encoding.{field_lines}
use Rattle.pb_encode.proofs.PartLemmas.{added, all_added}
use Rattle.pb_encode.proofs.headers.put_fields.Goals as goal

pub loop-i-preserved : goal.loop-i-preserved
loop-i-preserved c =
    added (field_lines c.args.is_scaled) c.args.layout.now c.loop-i.i c.field-field.result c.field-field.result c.loop-i.text _ _
    (omega arith) (c.field-field.ensures.value c.field-field.result) c.in_ok-put_field_lines.ensures c.loop-i.invariant

pub returns : goal.returns
returns c = all_added (field_lines c.args.is_scaled) c.args.layout.now c.loop-i.i c.loop-i.text _ (omega arith) c.loop-i.invariant
