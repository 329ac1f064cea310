use Rattle.std.proofs.Common.{refl, arith}
use Rattle.pb_core.specs.Answer.{after}
use Rattle.pb_core.specs.declared.Event.TheVariants as events
use Rattle.pb_replay.proofs.PendingLemmas.{told_stops, told_from}
use Rattle.pb_replay.proofs.TallyLemmas.{calls_twice, calls_room}
use Rattle.pb_replay.proofs.players.Player.open_again.Goals as goal

pub returns-in-Ok-clause-plays : goal.returns-in-Ok-clause-plays
returns-in-Ok-clause-plays g c = λ state h.
    told_from c.open_reader.result _ c.args.self.now.pending c.happens.new.self.pending c.open_reader.new.self.pending (g.K.Sink.held c.args.output.now) (g.K.Sink.held c.open_reader.new.output)
    c.happens.ensures.pending (c.open_reader.ensures.plays (after state (events.CloseData c.args.session)) (c.in-Ok.ensures.core refl state h))

pub returns-in-Ok-clause-core : goal.returns-in-Ok-clause-core
returns-in-Ok-clause-core g c = λ there state h.
    c.open_reader.ensures.core there (after state (events.CloseData c.args.session)) (c.in-Ok.ensures.core refl state h)

pub returns-in-Ok-clause-calls : goal.returns-in-Ok-clause-calls
returns-in-Ok-clause-calls g c = λ state h.
    calls_twice 0 21 21 _ _ _ refl (c.happens.ensures.calls state h)
    (c.open_reader.ensures.calls (after state (events.CloseData c.args.session)) (c.in-Ok.ensures.core refl state h))

pub returns : goal.returns
returns g c =
    record {
      plays = λ state h. told_stops c.happens.result _ c.args.self.now.pending c.happens.new.self.pending (g.K.Sink.held c.args.output.now) c.in_default.not-Ok c.happens.ensures.known;
      core = λ is. absurd (c.in_default.not-Ok is);
      calls = λ state h. calls_room 0 21 _ _ (omega arith) (c.happens.ensures.calls state h);
      assemblers = c.happens.ensures.assemblers;
      cause = λ is. absurd (c.happens.ensures.known is);
      count = omega arith;
    }
