use Rattle.std.proofs.Common.{sym, ◌∙◌}
use Rattle.pb_core.specs.Answer.{after_all}
use Rattle.pb_core.specs.Kept.{Agrees}
use Rattle.pb_replay.specs.declared.played.Told.TheVariants as ends
use Rattle.pb_replay.specs.Output.{sections}
use Rattle.pb_replay.specs.Pending.{PlaysOn}
use Rattle.pb_replay.proofs.PendingLemmas.{plays_on_nothing}
use Rattle.pb_replay.proofs.ReadersPlayed.{reads, reads_none}
use Rattle.pb_replay.proofs.TallyLemmas.{calls_none}
use Rattle.pb_replay.proofs.players.Player.take_all.Goals as goal

pub returns-then-is_reading-clause-plays : goal.returns-then-is_reading-clause-plays
returns-then-is_reading-clause-plays g c = λ state h.
    reads (λ happened. PlaysOn (sections state happened) c.take_pieces.result c.args.self.now.pending (g.K.Sink.held c.args.output.now) c.take_pieces.new.self.pending (g.K.Sink.held c.take_pieces.new.output))
    state c.args.session (sym (c.is_reading.ensures state h) ∙ c.if-is_reading.true) (c.take_pieces.ensures.plays state h)

pub returns-then-is_reading-clause-core : goal.returns-then-is_reading-clause-core
returns-then-is_reading-clause-core g c = λ there state h.
    reads (λ happened. Agrees c.take_pieces.new.self.core (after_all state happened))
    state c.args.session (sym (c.is_reading.ensures state h) ∙ c.if-is_reading.true) (c.take_pieces.ensures.core there state h)

pub returns-else-is_reading-clause-plays : goal.returns-else-is_reading-clause-plays
returns-else-is_reading-clause-plays g c = λ state h.
    reads_none (λ happened. PlaysOn (sections state happened) ends.Ok c.args.self.now.pending (g.K.Sink.held c.args.output.now) c.args.self.now.pending (g.K.Sink.held c.args.output.now))
    state c.args.session (sym (c.is_reading.ensures state h) ∙ c.if-is_reading.false) (plays_on_nothing c.args.self.now.pending (g.K.Sink.held c.args.output.now))

pub returns-else-is_reading-clause-core : goal.returns-else-is_reading-clause-core
returns-else-is_reading-clause-core g c = λ there state h.
    reads_none (λ happened. Agrees c.args.self.now.core (after_all state happened))
    state c.args.session (sym (c.is_reading.ensures state h) ∙ c.if-is_reading.false) h

pub returns-else-is_reading-clause-calls : goal.returns-else-is_reading-clause-calls
returns-else-is_reading-clause-calls g c = λ state h. calls_none _
