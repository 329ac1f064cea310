use Rattle.std.proofs.Common.{refl}
use Rattle.pb_grammar.specs.Grammar.{command_of, is_target, names_in, opening_in, said_in, table_in}
use Rattle.pb_grammar.proofs.commands.commands_by_example.Goals as goal

pub returns : goal.returns
unfolding command_of said_in is_target names_in table_in opening_in
returns c =
    record {
      function = refl;
      spaces = refl;
      output = refl;
      attribute = refl;
      fields = refl;
      attributes = refl;
      star = refl;
      echo = refl;
      no_echo = refl;
      unknown = refl;
      empty = refl;
      no_newline = refl;
      two_lines = refl;
      not_printable = refl;
      no_field = refl;
      many_parts = refl;
      behind = refl;
      table = refl;
      question = refl;
      numbers = refl;
      letters = refl;
      no_lines = refl;
      no_target = refl;
      target_first = refl;
      bad_line = refl;
      behind_body = refl;
      second_sign = refl;
      no_value = refl;
    }
