use Rattle.pb_turn.proofs.Positions.{count_together}
use Rattle.pb_turn.proofs.laws.joined_calls_are_those_of_both.Goals as goal

pub returns : goal.returns
returns c test mine theirs = count_together test mine theirs
