use Rattle.pb_fields.proofs.ValueLaws.{not_both, refused_once}
use Rattle.pb_fields.proofs.SpelledLemmas.{value_or_refusal}
use Rattle.pb_fields.proofs.values.texts_are_refused_once.Goals as goal

pub returns-clause-spelled : goal.returns-clause-spelled
returns-clause-spelled c = not_both

pub returns-clause-once : goal.returns-clause-once
returns-clause-once c = refused_once

pub returns-clause-either : goal.returns-clause-either
returns-clause-either c = value_or_refusal
