use Rattle.pb_grammar.proofs.WholeLemmas.{whole_ended, whole_iff}
use Rattle.pb_grammar.proofs.laws.whole_commands_are_computed.Goals as goal

pub returns-clause-computed : goal.returns-clause-computed
returns-clause-computed c bytes = whole_iff bytes

pub returns-clause-ended : goal.returns-clause-ended
returns-clause-ended c seen byte whole = whole_ended seen byte whole
