use Rattle.std.proofs.Common.{[], ◌∷◌, refl, sym, ◌∙◌, arith}
use Rattle.pb_core.specs.Sessions.{session_ids}
use Rattle.pb_replay.specs.Events.{going_to, takes_of_all}
use Rattle.pb_replay.proofs.PendingLemmas.{line_plays, line_stops, played_ok}
use Rattle.pb_replay.proofs.ReadersPlayed.{at, end_plays}
use Rattle.pb_replay.proofs.TallyLemmas.{went_more, went_stops, all_make_none, calls_room}
use Rattle.pb_replay.proofs.players.Player.end.Goals as goal

pub returns-in_default-clause-plays : goal.returns-in_default-clause-plays
returns-in_default-clause-plays g c = λ state h waiting.
    line_stops c.advance.result _ c.args.self.now.pending c.advance.new.self.pending (g.K.Sink.held c.args.output.now) c.in_default.not-Ok c.advance.ensures.known

pub returns-in_default-clause-went : goal.returns-in_default-clause-went
returns-in_default-clause-went g c = λ state h ready waiting.
    went_stops 21 _ c.advance.result state (going_to c.args.tick ∷ []) (takes_of_all (at state c.args.tick) session_ids) _ _ c.in_default.not-Ok c.advance.ensures.known (c.advance.ensures.pending, refl)
    (all_make_none session_ids (at state c.args.tick)) (c.advance.ensures.went state h ready)

pub returns-in-Ok-clause-plays : goal.returns-in-Ok-clause-plays
returns-in-Ok-clause-plays g c = λ state h waiting.
    line_plays c.take_rest.result c.played.result _ _ _ _ _ c.played.ensures
    (end_plays state waiting c.args.tick c.take_rest.result c.args.self.now.pending c.advance.new.self.pending c.take_rest.new.self.pending
    (g.K.Sink.held c.args.output.now) (g.K.Sink.held c.take_rest.new.output) c.advance.ensures.pending
    (c.take_rest.ensures.plays (at state c.args.tick) (c.in-Ok.ensures.core refl state h)))

pub returns-in-Ok-clause-core : goal.returns-in-Ok-clause-core
returns-in-Ok-clause-core g c = λ there state h waiting.
    c.take_rest.ensures.core (played_ok c.take_rest.result (sym c.played.ensures ∙ there)) (at state c.args.tick) (c.in-Ok.ensures.core refl state h)

pub returns-in-Ok-clause-went : goal.returns-in-Ok-clause-went
returns-in-Ok-clause-went g c = λ state h ready waiting.
    went_more 21 _ c.take_rest.result c.played.result state (going_to c.args.tick ∷ []) (takes_of_all (at state c.args.tick) session_ids) _ _ _ c.played.ensures
    (all_make_none session_ids (at state c.args.tick)) (c.in-Ok.ensures.went state h ready)
    (calls_room 0 21 _ _ (omega arith) (c.take_rest.ensures.calls (at state c.args.tick) (c.in-Ok.ensures.core refl state h)))
