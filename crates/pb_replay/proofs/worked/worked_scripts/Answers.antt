use Rattle.std.proofs.Common.{refl}
use Rattle.std.specs.Fmt.{digits}
use Rattle.pb_grammar.specs.Grammar.{command_of, said_in, names_in, is_target, opening_in}
use Rattle.pb_grammar.specs.Streams.{is_whole}
use Rattle.pb_replay.specs.Inputs.{inputs}
use Rattle.pb_lut.specs.Computed.{function_of, expression_of, tree_at}
use Rattle.pb_fields.specs.Catalogue.{catalogue}
use Rattle.pb_fields.specs.Labels.{bit_names}
use Rattle.pb_fields.specs.Entries.{bit_entries}
use Rattle.pb_fields.specs.Spelled.{spelled}
use Rattle.pb_config.specs.Assigning.{raw_given}
use Rattle.pb_buses.specs.Buses.{number}
use Rattle.pb_buses.specs.Delay.{digits as line_digits, line_after, pushed}
use Rattle.pb_model.specs.Machines.{machines, machine_kinds}
use Rattle.pb_model.specs.Units.{bit_outputs, position_outputs}
use Rattle.pb_model.specs.Tick.{opening_block, opening_selections}
use Rattle.pb_model.specs.Settings.{so_many_before}
use Rattle.pb_core.specs.Naming.{named_by}
use Rattle.pb_replay.proofs.worked.worked_scripts.Goals as goal

pub returns : goal.returns
unfolding inputs number line_digits line_after pushed machines machine_kinds bit_outputs position_outputs opening_block opening_selections so_many_before digits is_whole opening_in command_of said_in names_in is_target function_of expression_of tree_at catalogue bit_names bit_entries spelled raw_given named_by
returns c = record { empty = refl; latency = refl; toggling = refl; refused = refl }
