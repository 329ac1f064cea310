use Rattle.std.proofs.Common.{refl}
use Rattle.pb_grammar.specs.Grammar.{command_of, said_in, is_target, names_in}
use Rattle.pb_fields.specs.Catalogue.{catalogue}
use Rattle.pb_fields.specs.Entries.{bit_entries}
use Rattle.pb_fields.specs.Labels.{bit_names}
use Rattle.pb_fields.specs.Spelled.{spelled}
use Rattle.pb_lut.specs.Computed.{function_of, expression_of, tree_at}
use Rattle.pb_config.specs.Assigning.{raw_given}
use Rattle.pb_core.specs.Naming.{named_by}
use Rattle.pb_core.proofs.examples.refused_lines_change_nothing.Goals as goal

pub returns : goal.returns
unfolding command_of said_in is_target names_in catalogue bit_entries bit_names spelled function_of expression_of tree_at raw_given named_by
returns c =
    record {
      label = refl;
      label_kept = refl;
      value = refl;
      value_kept = refl;
      number = refl;
      number_kept = refl;
      field = refl;
      field_kept = refl;
      output = refl;
      output_kept = refl;
    }
