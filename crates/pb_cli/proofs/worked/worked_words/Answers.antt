use Rattle.pb_cli.proofs.WorkedLemmas.{usual_ports, given_ports}
use Rattle.pb_cli.proofs.worked.worked_words.Goals as goal

pub returns-clause-usual : goal.returns-clause-usual
returns-clause-usual c = usual_ports

pub returns-clause-given : goal.returns-clause-given
returns-clause-given c = given_ports
