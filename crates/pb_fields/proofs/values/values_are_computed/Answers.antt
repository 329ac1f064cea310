use Rattle.pb_fields.proofs.SpelledLemmas.{spelled_value, spelled_refusal}
use Rattle.pb_fields.proofs.values.values_are_computed.Goals as goal

pub returns-clause-value : goal.returns-clause-value
returns-clause-value c kind text raw k = spelled_value kind text k raw

pub returns-clause-refusal : goal.returns-clause-refusal
returns-clause-refusal c kind text refusal k = spelled_refusal kind text k refusal
