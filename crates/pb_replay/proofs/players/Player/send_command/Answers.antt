use Rattle.pb_replay.specs.Events.{sent}
use Rattle.pb_replay.proofs.ToldLemmas.{same_plays, same_leaves}
use Rattle.pb_replay.proofs.PendingLemmas.{front_none}
use Rattle.pb_replay.proofs.players.Player.send_command.Goals as goal

pub returns-in-Ok-clause-plays : goal.returns-in-Ok-clause-plays
returns-in-Ok-clause-plays g c = λ state h bytes whole.
    same_plays state c.put_command.new.event (sent c.args.session bytes) c.tell.result c.args.self.now.pending c.tell.new.self.pending (g.K.Sink.held c.args.output.now) (g.K.Sink.held c.tell.new.output)
    (c.in-Ok.ensures.sent bytes whole) (c.tell.ensures.plays state h)

pub returns-in-Ok-clause-core : goal.returns-in-Ok-clause-core
returns-in-Ok-clause-core g c = λ there state h bytes whole.
    same_leaves state c.put_command.new.event (sent c.args.session bytes) c.tell.new.self.core (c.in-Ok.ensures.sent bytes whole) (c.tell.ensures.core there state h)

pub returns-in-Err-clause-plays : goal.returns-in-Err-clause-plays
returns-in-Err-clause-plays g c = λ state h bytes whole. front_none _ _
