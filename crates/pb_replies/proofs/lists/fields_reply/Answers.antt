use Rattle.std.proofs.Common.{[], ap, ◌++◌, codes, ◌∙◌, arith}
use Rattle.pb_fields.specs.declared.FieldType.TheVariants as types
use Rattle.pb_fields.specs.Catalogue.{field}
use Rattle.pb_fields.specs.Places.{field_of, fields_of}
use Rattle.pb_replies.specs.Lists.{field_lines, field_line}
use Rattle.pb_replies.proofs.NameLemmas.{length-field_lines, field_line_at}
use Rattle.pb_replies.proofs.ListedLemmas.{one_more, all_lines}
use Rattle.pb_replies.proofs.lists.fields_reply.Goals as goal

pub loop-field-preserved : goal.loop-field-preserved
loop-field-preserved c =
    let b = c.args.block in
    let f = c.loop-field.field in
    let size = length-field_lines 0 (fields_of b) in
    c.in_ok-list_field.ensures
    ∙ one_more [] (field_lines b) f c.loop-field.text (field_line f (field_of b f)) (omega (arith, size)) (field_line_at 0 f f (fields_of b) (field [] types.Table 0) (omega arith) (omega arith)) c.loop-field.invariant

pub returns : goal.returns
returns c =
    let size = length-field_lines 0 (fields_of c.args.block) in
    c.in_ok-end_list.ensures
    ∙ ap (λ t. t ++ codes ".\n") (c.loop-field.invariant ∙ all_lines [] (field_lines c.args.block) c.loop-field.field (omega (arith, size)))
