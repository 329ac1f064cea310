use Rattle.pb_grammar.proofs.Meanings.{command_iff}
use Rattle.pb_grammar.proofs.commands.commands_have_one_meaning.Goals as goal

pub returns : goal.returns
returns c bytes said = command_iff bytes said
