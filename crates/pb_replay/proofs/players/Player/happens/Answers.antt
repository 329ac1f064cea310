use Rattle.pb_replay.proofs.ToldLemmas.{left_quiet}
use Rattle.pb_replay.proofs.TallyLemmas.{quiet_calls}
use Rattle.pb_replay.proofs.players.Player.happens.Goals as goal

pub returns-in-Ok-clause-core : goal.returns-in-Ok-clause-core
returns-in-Ok-clause-core g c = λ there state h.
    left_quiet state c.apply.new.self c.args.event.now c.in-Ok._answer c.requires.quiet (c.in-Ok.ensures.core state h)

pub returns-in-Ok-clause-calls : goal.returns-in-Ok-clause-calls
returns-in-Ok-clause-calls g c = λ state h.
    quiet_calls state c.args.event.now c.args.self.now.core c.apply.new.self c.args.self.now.eventful c.args.steps.now c.apply.new.steps c.requires.quiet (c.apply.ensures.counts state h)

pub returns-in-Err-clause-calls : goal.returns-in-Err-clause-calls
returns-in-Err-clause-calls g c = λ state h.
    quiet_calls state c.args.event.now c.args.self.now.core c.apply.new.self c.args.self.now.eventful c.args.steps.now c.apply.new.steps c.requires.quiet (c.apply.ensures.counts state h)
