use Rattle.std.proofs.Common.{[], ◌∷◌, ◌++◌, refl, sym, ◌∙◌}
use Rattle.pb_core.specs.declared.Event.TheVariants as events
use Rattle.pb_core.specs.Sessions.{is_reading}
use Rattle.pb_replay.specs.Events.{going_to, closed_for}
use Rattle.pb_replay.proofs.PendingLemmas.{line_plays, line_stops, played_ok}
use Rattle.pb_replay.proofs.ReadersPlayed.{at, closed_at, again_plays, again_leaves, new_plays, new_leaves}
use Rattle.pb_replay.proofs.LinesPlayed.{opened_again, opened_new}
use Rattle.pb_replay.specs.Tallies.{tally, Went}
use Rattle.pb_replay.specs.Pending.{IsSilent}
use Rattle.pb_replay.proofs.TallyLemmas.{went_more, went_stops, opening_makes_none}
use Rattle.pb_replay.proofs.players.Player.open_data.Goals as goal

pub returns-in_default-clause-plays : goal.returns-in_default-clause-plays
returns-in_default-clause-plays g c = λ state h waiting.
    line_stops c.advance.result _ c.args.self.now.pending c.advance.new.self.pending (g.K.Sink.held c.args.output.now) c.in_default.not-Ok c.advance.ensures.known

pub returns-in_default-clause-went : goal.returns-in_default-clause-went
returns-in_default-clause-went g c = λ state h ready waiting.
    went_stops 21 _ c.advance.result state (going_to c.args.tick ∷ []) (closed_for (is_reading state.acquisitions c.args.session) c.args.session ++ events.OpenData c.args.session c.args.options.now ∷ []) _ _
    c.in_default.not-Ok c.advance.ensures.known (c.advance.ensures.pending, refl)
    (opening_makes_none (is_reading state.acquisitions c.args.session) c.args.session c.args.options.now) (c.advance.ensures.went state h ready)

pub returns-then-was_open-clause-plays : goal.returns-then-was_open-clause-plays
returns-then-was_open-clause-plays g c = λ state h waiting.
    line_plays c.open_again.result c.played.result _ _ _ _ _ c.played.ensures
    (again_plays state waiting c.args.tick c.args.session c.args.options.now c.open_again.result c.args.self.now.pending c.advance.new.self.pending c.open_again.new.self.pending
    (g.K.Sink.held c.args.output.now) (g.K.Sink.held c.open_again.new.output) (sym (c.is_reading-was_open.ensures state h) ∙ c.if-was_open.true) c.advance.ensures.pending
    (c.open_again.ensures.plays (at state c.args.tick) (c.in-Ok.ensures.core refl state h)))

pub returns-then-was_open-clause-core : goal.returns-then-was_open-clause-core
returns-then-was_open-clause-core g c = λ there state h waiting.
    again_leaves state waiting c.args.tick c.args.session c.args.options.now c.open_again.new.self.core (sym (c.is_reading-was_open.ensures state h) ∙ c.if-was_open.true)
    (c.open_again.ensures.core (played_ok c.open_again.result (sym c.played.ensures ∙ there)) (at state c.args.tick) (c.in-Ok.ensures.core refl state h))

pub returns-then-was_open-clause-went : goal.returns-then-was_open-clause-went
returns-then-was_open-clause-went g c = λ state h ready waiting.
    went_more 21 _ c.open_again.result c.played.result state (going_to c.args.tick ∷ []) (closed_for (is_reading state.acquisitions c.args.session) c.args.session ++ events.OpenData c.args.session c.args.options.now ∷ []) _ _ _
    c.played.ensures (opening_makes_none (is_reading state.acquisitions c.args.session) c.args.session c.args.options.now)
    (c.in-Ok.ensures.went state h ready) (c.open_again.ensures.calls (at state c.args.tick) (c.in-Ok.ensures.core refl state h))

pub returns-else-was_open-clause-plays : goal.returns-else-was_open-clause-plays
returns-else-was_open-clause-plays g c = λ state h waiting.
    line_plays c.open_reader.result c.played-else-was_open.result _ _ _ _ _ c.played-else-was_open.ensures
    (new_plays state waiting c.args.tick c.args.session c.args.options.now c.open_reader.result c.args.self.now.pending c.advance.new.self.pending c.open_reader.new.self.pending
    (g.K.Sink.held c.args.output.now) (g.K.Sink.held c.open_reader.new.output) (sym (c.is_reading-was_open.ensures state h) ∙ c.if-was_open.false) c.advance.ensures.pending
    (c.open_reader.ensures.plays (at state c.args.tick) (c.in-Ok.ensures.core refl state h)))

pub returns-else-was_open-clause-core : goal.returns-else-was_open-clause-core
returns-else-was_open-clause-core g c = λ there state h waiting.
    new_leaves state waiting c.args.tick c.args.session c.args.options.now c.open_reader.new.self.core (sym (c.is_reading-was_open.ensures state h) ∙ c.if-was_open.false)
    (c.open_reader.ensures.core (played_ok c.open_reader.result (sym c.played-else-was_open.ensures ∙ there)) (at state c.args.tick) (c.in-Ok.ensures.core refl state h))

pub returns-else-was_open-clause-went : goal.returns-else-was_open-clause-went
returns-else-was_open-clause-went g c = λ state h ready waiting.
    went_more 21 _ c.open_reader.result c.played-else-was_open.result state (going_to c.args.tick ∷ []) (closed_for (is_reading state.acquisitions c.args.session) c.args.session ++ events.OpenData c.args.session c.args.options.now ∷ []) _ _ _
    c.played-else-was_open.ensures (opening_makes_none (is_reading state.acquisitions c.args.session) c.args.session c.args.options.now)
    (c.in-Ok.ensures.went state h ready) (c.open_reader.ensures.calls (at state c.args.tick) (c.in-Ok.ensures.core refl state h))
