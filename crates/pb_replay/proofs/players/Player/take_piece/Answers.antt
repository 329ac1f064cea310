use Rattle.pb_replay.proofs.PendingLemmas.{front_none}
use Rattle.pb_replay.proofs.TallyLemmas.{take_calls}
use Rattle.pb_replay.proofs.players.Player.take_piece.Goals as goal

pub returns-in-Ok-clause-calls : goal.returns-in-Ok-clause-calls
returns-in-Ok-clause-calls g c = λ state h.
    take_calls c.args.self.now.core c.answer.new.core c.args.self.now.eventful c.args.steps.now c.answer.new.steps (c.answer.ensures.costs state h)

pub returns-clause-calls : goal.returns-clause-calls
returns-clause-calls g c = λ state h.
    take_calls c.args.self.now.core c.answer.new.core c.args.self.now.eventful c.args.steps.now c.answer.new.steps (c.answer.ensures.costs state h)

pub returns-clause-plays : goal.returns-clause-plays
returns-clause-plays g c = λ state h. front_none _ _
