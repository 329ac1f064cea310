use Rattle.std.proofs.Common.{◌∙◌, ap}
use Rattle.pb_fields.specs.Catalogue.{BlockRow}
use Rattle.pb_fields.specs.Places.{fields_of}
use Rattle.pb_fields.proofs.FindingLemmas.{field_place}
use Rattle.pb_fields.proofs.finding.field_named.Goals as goal

pub returns-in-Some-clause-named : goal.returns-in-Some-clause-named
returns-in-Some-clause-named c =
    c.in-Some.ensures.place
    ∙ field_place c.block_at.result.2.now (fields_of c.args.block) c.args.name.now (ap (λ (r : BlockRow). r.fields) c.block_at.ensures.row)

pub returns-in-None-clause-named : goal.returns-in-None-clause-named
returns-in-None-clause-named c =
    c.in-None.ensures.place
    ∙ field_place c.block_at.result.2.now (fields_of c.args.block) c.args.name.now (ap (λ (r : BlockRow). r.fields) c.block_at.ensures.row)
