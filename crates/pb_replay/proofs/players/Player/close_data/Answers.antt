use Rattle.pb_replay.proofs.TallyLemmas.{went_room}
use Rattle.pb_replay.proofs.players.Player.close_data.Goals as goal

pub returns-clause-core : goal.returns-clause-core
returns-clause-core g c = λ there state h waiting. c.happens_at.ensures.core there state h

pub returns-clause-went : goal.returns-clause-went
returns-clause-went g c = λ state h ready waiting.
    went_room 21 _ c.happens_at.result state _ _ _ (c.happens_at.ensures.went state h ready)
