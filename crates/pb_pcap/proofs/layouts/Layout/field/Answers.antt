use Rattle.std.proofs.Common.{◌<◌, List, length, sym, subst}
use Rattle.pb_pcap.specs.declared.fields.Field.{Field}
use Rattle.pb_pcap.proofs.FieldLemmas.{field_at}
use Rattle.pb_pcap.proofs.layouts.Layout.field.Goals as goal

pub returns-clause-is_field : goal.returns-clause-is_field
returns-clause-is_field c =
    field_at 0 c.fields-fields.result.now c.args.i _ c.fields-fields.ensures.are_fields
    (subst (λ (fields : List Field). c.args.i < length fields) (sym c.fields-fields.ensures.value) c.requires)
