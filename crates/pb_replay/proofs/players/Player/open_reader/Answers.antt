use Rattle.pb_replay.proofs.PendingLemmas.{front_none}
use Rattle.pb_replay.proofs.players.Player.open_reader.Goals as goal

pub returns-then-is_err-clause-plays : goal.returns-then-is_err-clause-plays
returns-then-is_err-clause-plays g c = λ state h. front_none _ _
