use Rattle.std.proofs.Common.{◌++◌, ap, ◌∙◌, codes, arith, append_assoc}
use Rattle.pb_encode.specs.Encoding.{fields_text}
use Rattle.pb_encode.proofs.LineLemmas.{field_more, field_fits, all_fields}
use Rattle.pb_encode.proofs.lines.put_record.Goals as goal

pub put_field-requires-clause-bytes : goal.put_field-requires-clause-bytes
put_field-requires-clause-bytes c =
    field_fits c.args.layout.now c.loop-i.i c.field-field.result c.field-field.result _ (omega arith)
    (c.field-field.ensures.value c.field-field.result) c.loop-i.invariant.1

pub loop-i-preserved : goal.loop-i-preserved
loop-i-preserved c =
    field_more c.args.is_scaled c.args.layout.now c.loop-i.i c.field-field.result c.field-field.result c.loop-i.text _ _ c.loop-i.rest.now _
    (omega arith) (c.field-field.ensures.value c.field-field.result) c.in_ok-rest.ensures.text c.in_ok-rest.ensures.rest
    c.loop-i.invariant.0 c.loop-i.invariant.1

pub returns : goal.returns
returns c =
    c.in_ok-append.ensures.ok
    ∙ ap (λ t. t ++ codes "\n")
    (all_fields c.args.is_scaled c.args.layout.now c.loop-i.i c.loop-i.text _ c.loop-i.rest.now (omega arith) c.loop-i.invariant.0)
    ∙ append_assoc c.args.text.now (fields_text c.args.is_scaled c.args.layout.now c.args.record_.now) (codes "\n")
