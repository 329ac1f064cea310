use Rattle.std.proofs.Common.{[], ◌∷◌, refl, sym, ◌∙◌}
use Rattle.pb_core.specs.declared.Event.TheVariants as events
use Rattle.pb_replay.specs.Events.{going_to}
use Rattle.pb_replay.proofs.PendingLemmas.{line_plays, line_stops, played_ok}
use Rattle.pb_replay.proofs.ReadersPlayed.{at, take_plays}
use Rattle.pb_replay.proofs.ToldLemmas.{same_leaves, same_plays}
use Rattle.pb_replay.proofs.TallyLemmas.{went_more, went_stops}
use Rattle.pb_replay.proofs.players.Player.take.Goals as goal

pub returns-in_default-clause-plays : goal.returns-in_default-clause-plays
returns-in_default-clause-plays g c = λ state h waiting.
    line_stops c.advance.result _ c.args.self.now.pending c.advance.new.self.pending (g.K.Sink.held c.args.output.now) c.in_default.not-Ok c.advance.ensures.known

pub returns-in_default-clause-went : goal.returns-in_default-clause-went
returns-in_default-clause-went g c = λ state h ready waiting.
    went_stops 21 _ c.advance.result state (going_to c.args.tick ∷ []) (events.Take c.args.session ∷ []) _ _ c.in_default.not-Ok c.advance.ensures.known (c.advance.ensures.pending, refl)
    (λ core. refl, tt) (c.advance.ensures.went state h ready)

pub returns-clause-plays : goal.returns-clause-plays
returns-clause-plays g c = λ state h waiting.
    line_plays c.tell-told.result c.played.result _ _ _ _ _ c.played.ensures
    (take_plays state waiting c.args.tick c.args.session c.tell-told.result c.args.self.now.pending c.advance.new.self.pending c.tell-told.new.self.pending
    (g.K.Sink.held c.args.output.now) (g.K.Sink.held c.tell-told.new.output) c.advance.ensures.pending
    (same_plays (at state c.args.tick) c.replace-kept.new.dest (events.Take c.args.session) c.tell-told.result c.advance.new.self.pending c.tell-told.new.self.pending
    (g.K.Sink.held c.args.output.now) (g.K.Sink.held c.tell-told.new.output) c.replace-kept.ensures.after
    (c.tell-told.ensures.plays (at state c.args.tick) (c.in-Ok.ensures.core refl state h))))

pub returns-clause-core : goal.returns-clause-core
returns-clause-core g c = λ there state h waiting.
    same_leaves (at state c.args.tick) c.replace-kept.new.dest (events.Take c.args.session) c.tell-told.new.self.core c.replace-kept.ensures.after
    (c.tell-told.ensures.core (played_ok c.tell-told.result (sym c.played.ensures ∙ there)) (at state c.args.tick) (c.in-Ok.ensures.core refl state h))

pub returns-clause-went : goal.returns-clause-went
returns-clause-went g c = λ state h ready waiting.
    went_more 21 _ c.tell-told.result c.played.result state (going_to c.args.tick ∷ []) (events.Take c.args.session ∷ []) _ _ _ c.played.ensures (λ core. refl, tt)
    (c.in-Ok.ensures.went state h ready) (c.tell-told.ensures.calls (at state c.args.tick) (c.in-Ok.ensures.core refl state h))
