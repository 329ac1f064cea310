use Rattle.std.proofs.Common.{false, [], ◌∷◌, refl, sym, ◌∙◌}
use Rattle.pb_core.specs.Answer.{after}
use Rattle.pb_core.specs.declared.Event.TheVariants as events
use Rattle.pb_replay.specs.Events.{going_to, waits_of, with_line, sent}
use Rattle.pb_replay.specs.Pending.{IsSilent}
use Rattle.pb_replay.specs.Tallies.{tally, Went, WentAll}
use Rattle.pb_replay.proofs.PendingLemmas.{line_plays, line_stops, played_ok}
use Rattle.pb_replay.proofs.TallyLemmas.{went_more, went_first, all_room, sent_makes_none}
use Rattle.pb_replay.proofs.LinesPlayed.{first_plays, first_leaves, first_plays_none, first_leaves_none, first_command, first_none, open_as, fed_kept}
use Rattle.pb_replay.proofs.players.Player.play_first_line.Goals as goal

pub returns-in_default-clause-plays : goal.returns-in_default-clause-plays
returns-in_default-clause-plays g c = λ state h waiting f.
    line_stops c.happens_at.result _ c.args.self.now.pending c.happens_at.new.self.pending (g.K.Sink.held c.args.output.now) c.in_default.not-Ok c.happens_at.ensures.known

pub returns-in_default-clause-went : goal.returns-in_default-clause-went
returns-in_default-clause-went g c = λ state h ready waiting f.
    went_first c.happens_at.result state waiting c.args.tick c.args.session c.args.text.now _ _ _ c.in_default.not-Ok c.happens_at.ensures.known (c.happens_at.ensures.pending, refl)
    (open_as state c.args.self.now.core c.args.session false h c.requires.open) (c.happens_at.ensures.went state h ready)

pub returns-then-not-feed-clause-plays : goal.returns-then-not-feed-clause-plays
returns-then-not-feed-clause-plays g c = λ state h waiting f.
    let fed = fed_kept c.args.self.now.assemblers c.happens_at.new.self.assemblers waiting c.happens_at.ensures.assemblers f in
    first_plays_none state c.args.self.now.core waiting c.args.tick c.args.session c.args.text.now c.args.self.now.pending c.happens_at.new.self.pending (g.K.Sink.held c.args.output.now) h c.requires.open
    (sym (c.feed.ensures.whole waiting fed) ∙ c.if-not-feed.true) c.happens_at.ensures.pending

pub returns-then-not-feed-clause-core : goal.returns-then-not-feed-clause-core
returns-then-not-feed-clause-core g c = λ there state h waiting f.
    let fed = fed_kept c.args.self.now.assemblers c.happens_at.new.self.assemblers waiting c.happens_at.ensures.assemblers f in
    first_leaves_none state c.args.self.now.core c.happens_at.new.self.core waiting c.args.tick c.args.session c.args.text.now h c.requires.open
    (sym (c.feed.ensures.whole waiting fed) ∙ c.if-not-feed.true) (c.in-Ok.ensures.core refl state h)

pub returns-then-not-feed-clause-fed : goal.returns-then-not-feed-clause-fed
returns-then-not-feed-clause-fed g c = λ there waiting f.
    c.feed.ensures.fed waiting (fed_kept c.args.self.now.assemblers c.happens_at.new.self.assemblers waiting c.happens_at.ensures.assemblers f)

pub returns-then-not-feed-clause-went : goal.returns-then-not-feed-clause-went
returns-then-not-feed-clause-went g c = λ state h ready waiting f.
    let fed = fed_kept c.args.self.now.assemblers c.happens_at.new.self.assemblers waiting c.happens_at.ensures.assemblers f in
    first_none (λ all. WentAll 21 state all (tally c.args.self.now.core c.args.self.now.eventful c.args.steps.now) (tally c.happens_at.new.self.core c.happens_at.new.self.eventful c.happens_at.new.steps))
    state waiting c.args.tick c.args.session c.args.text.now (open_as state c.args.self.now.core c.args.session false h c.requires.open) (sym (c.feed.ensures.whole waiting fed) ∙ c.if-not-feed.true)
    (all_room 21 state _ _ _ (c.in-Ok.ensures.went state h ready))

pub returns-clause-plays : goal.returns-clause-plays
returns-clause-plays g c = λ state h waiting f.
    let bytes = with_line (waits_of waiting c.args.session) c.args.text.now in
    let fed = fed_kept c.args.self.now.assemblers c.happens_at.new.self.assemblers waiting c.happens_at.ensures.assemblers f in
    line_plays c.send_command.result c.played.result _ _ _ _ _ c.played.ensures
    (first_plays state c.args.self.now.core waiting c.args.tick c.args.session c.args.text.now c.send_command.result c.args.self.now.pending c.happens_at.new.self.pending c.send_command.new.self.pending
    (g.K.Sink.held c.args.output.now) (g.K.Sink.held c.send_command.new.output) h c.requires.open (sym (c.feed.ensures.whole waiting fed) ∙ c.if-not-feed.false) c.happens_at.ensures.pending
    (c.send_command.ensures.plays (after (after state (going_to c.args.tick)) (events.OpenControl c.args.session)) (c.in-Ok.ensures.core refl state h) bytes
    (c.feed.ensures.completed waiting fed c.if-not-feed.false)))

pub returns-clause-core : goal.returns-clause-core
returns-clause-core g c = λ there state h waiting f.
    let bytes = with_line (waits_of waiting c.args.session) c.args.text.now in
    let fed = fed_kept c.args.self.now.assemblers c.happens_at.new.self.assemblers waiting c.happens_at.ensures.assemblers f in
    first_leaves state c.args.self.now.core c.send_command.new.self.core waiting c.args.tick c.args.session c.args.text.now h c.requires.open (sym (c.feed.ensures.whole waiting fed) ∙ c.if-not-feed.false)
    (c.send_command.ensures.core (played_ok c.send_command.result (sym c.played.ensures ∙ there)) (after (after state (going_to c.args.tick)) (events.OpenControl c.args.session)) (c.in-Ok.ensures.core refl state h) bytes
    (c.feed.ensures.completed waiting fed c.if-not-feed.false))

pub returns-clause-fed : goal.returns-clause-fed
returns-clause-fed g c = λ there waiting f.
    fed_kept c.feed.new.self c.send_command.new.self.assemblers _ c.send_command.ensures.assemblers
    (c.feed.ensures.fed waiting (fed_kept c.args.self.now.assemblers c.happens_at.new.self.assemblers waiting c.happens_at.ensures.assemblers f))

pub returns-clause-went : goal.returns-clause-went
returns-clause-went g c = λ state h ready waiting f.
    let bytes = with_line (waits_of waiting c.args.session) c.args.text.now in
    let fed = fed_kept c.args.self.now.assemblers c.happens_at.new.self.assemblers waiting c.happens_at.ensures.assemblers f in
    first_command (λ all. Went 21 (IsSilent c.args.self.now.pending (g.K.Sink.held c.args.output.now) c.send_command.new.self.pending (g.K.Sink.held c.send_command.new.output)) c.played.result state all
    (tally c.args.self.now.core c.args.self.now.eventful c.args.steps.now) (tally c.send_command.new.self.core c.send_command.new.self.eventful c.send_command.new.steps))
    state waiting c.args.tick c.args.session c.args.text.now (open_as state c.args.self.now.core c.args.session false h c.requires.open) (sym (c.feed.ensures.whole waiting fed) ∙ c.if-not-feed.false)
    (went_more 21 _ c.send_command.result c.played.result state (going_to c.args.tick ∷ events.OpenControl c.args.session ∷ []) (sent c.args.session bytes ∷ []) _ _ _ c.played.ensures
    (sent_makes_none c.args.session bytes) (c.in-Ok.ensures.went state h ready)
    (c.send_command.ensures.calls (after (after state (going_to c.args.tick)) (events.OpenControl c.args.session)) (c.in-Ok.ensures.core refl state h)))
