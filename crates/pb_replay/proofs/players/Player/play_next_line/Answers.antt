use Rattle.std.proofs.Common.{true, [], ◌∷◌, refl, sym, ◌∙◌}
use Rattle.pb_core.specs.Answer.{after}
use Rattle.pb_replay.specs.Events.{going_to, waits_of, with_line, sent}
use Rattle.pb_replay.specs.Pending.{IsSilent}
use Rattle.pb_replay.specs.Tallies.{tally, Went, WentAll}
use Rattle.pb_replay.proofs.PendingLemmas.{line_plays, line_stops, played_ok}
use Rattle.pb_replay.proofs.TallyLemmas.{went_more, went_stops, went_none, sent_makes_none}
use Rattle.pb_replay.proofs.LinesPlayed.{next_plays, next_leaves, next_plays_none, next_leaves_none, next_command, next_none, open_as, fed_kept, completed_kept, whole_kept}
use Rattle.pb_replay.proofs.players.Player.play_next_line.Goals as goal

pub returns-then-not-feed-clause-plays : goal.returns-then-not-feed-clause-plays
returns-then-not-feed-clause-plays g c = λ state h waiting f.
    next_plays_none state c.args.self.now.core waiting c.args.tick c.args.session c.args.text.now c.args.self.now.pending c.args.self.now.pending (g.K.Sink.held c.args.output.now) h c.requires.open
    (sym (c.feed.ensures.whole waiting f) ∙ c.if-not-feed.true) refl

pub returns-then-not-feed-clause-core : goal.returns-then-not-feed-clause-core
returns-then-not-feed-clause-core g c = λ there state h waiting f.
    next_leaves_none state c.args.self.now.core waiting c.args.tick c.args.session c.args.text.now h c.requires.open (sym (c.feed.ensures.whole waiting f) ∙ c.if-not-feed.true)

pub returns-then-not-feed-clause-fed : goal.returns-then-not-feed-clause-fed
returns-then-not-feed-clause-fed g c = λ there waiting f. c.feed.ensures.fed waiting f

pub returns-then-not-feed-clause-went : goal.returns-then-not-feed-clause-went
returns-then-not-feed-clause-went g c = λ state h ready waiting f.
    next_none (λ all. WentAll 21 state all (tally c.args.self.now.core c.args.self.now.eventful c.args.steps.now) (tally c.args.self.now.core c.args.self.now.eventful c.args.steps.now))
    state waiting c.args.tick c.args.session c.args.text.now (open_as state c.args.self.now.core c.args.session true h c.requires.open) (sym (c.feed.ensures.whole waiting f) ∙ c.if-not-feed.true)
    (went_none 21 state _ ready.few)

pub returns-in_default-clause-plays : goal.returns-in_default-clause-plays
returns-in_default-clause-plays g c = λ state h waiting f.
    line_stops c.advance.result _ c.args.self.now.pending c.advance.new.self.pending (g.K.Sink.held c.args.output.now) c.in_default.not-Ok c.advance.ensures.known

pub returns-in_default-clause-went : goal.returns-in_default-clause-went
returns-in_default-clause-went g c = λ state h ready waiting f.
    let bytes = with_line (waits_of waiting c.args.session) c.args.text.now in
    next_command (λ all. Went 21 (IsSilent c.args.self.now.pending (g.K.Sink.held c.args.output.now) c.advance.new.self.pending (g.K.Sink.held c.args.output.now)) c.advance.result state all
    (tally c.args.self.now.core c.args.self.now.eventful c.args.steps.now) (tally c.advance.new.self.core c.advance.new.self.eventful c.advance.new.steps))
    state waiting c.args.tick c.args.session c.args.text.now (open_as state c.args.self.now.core c.args.session true h c.requires.open) (sym (c.feed.ensures.whole waiting f) ∙ c.if-not-feed.false)
    (went_stops 21 _ c.advance.result state (going_to c.args.tick ∷ []) (sent c.args.session bytes ∷ []) _ _ c.in_default.not-Ok c.advance.ensures.known (c.advance.ensures.pending, refl)
    (sent_makes_none c.args.session bytes) (c.advance.ensures.went state h ready))

pub send_command-requires-clause-whole : goal.send_command-requires-clause-whole
send_command-requires-clause-whole g c =
    whole_kept c.feed.new.self c.advance.new.self.assemblers c.args.session c.advance.ensures.assemblers (c.feed.ensures.ended c.if-not-feed.false)

pub returns-in-Ok-clause-plays : goal.returns-in-Ok-clause-plays
returns-in-Ok-clause-plays g c = λ state h waiting f.
    let bytes = with_line (waits_of waiting c.args.session) c.args.text.now in
    line_plays c.send_command.result c.played.result _ _ _ _ _ c.played.ensures
    (next_plays state c.args.self.now.core waiting c.args.tick c.args.session c.args.text.now c.send_command.result c.args.self.now.pending c.advance.new.self.pending c.send_command.new.self.pending
    (g.K.Sink.held c.args.output.now) (g.K.Sink.held c.send_command.new.output) h c.requires.open (sym (c.feed.ensures.whole waiting f) ∙ c.if-not-feed.false) c.advance.ensures.pending
    (c.send_command.ensures.plays (after state (going_to c.args.tick)) (c.in-Ok.ensures.core refl state h) bytes
    (completed_kept c.feed.new.self c.advance.new.self.assemblers c.args.session bytes c.advance.ensures.assemblers (c.feed.ensures.completed waiting f c.if-not-feed.false))))

pub returns-in-Ok-clause-core : goal.returns-in-Ok-clause-core
returns-in-Ok-clause-core g c = λ there state h waiting f.
    let bytes = with_line (waits_of waiting c.args.session) c.args.text.now in
    next_leaves state c.args.self.now.core c.send_command.new.self.core waiting c.args.tick c.args.session c.args.text.now h c.requires.open (sym (c.feed.ensures.whole waiting f) ∙ c.if-not-feed.false)
    (c.send_command.ensures.core (played_ok c.send_command.result (sym c.played.ensures ∙ there)) (after state (going_to c.args.tick)) (c.in-Ok.ensures.core refl state h) bytes
    (completed_kept c.feed.new.self c.advance.new.self.assemblers c.args.session bytes c.advance.ensures.assemblers (c.feed.ensures.completed waiting f c.if-not-feed.false)))

pub returns-in-Ok-clause-fed : goal.returns-in-Ok-clause-fed
returns-in-Ok-clause-fed g c = λ there waiting f.
    fed_kept c.feed.new.self c.send_command.new.self.assemblers _ (c.send_command.ensures.assemblers ∙ c.advance.ensures.assemblers) (c.feed.ensures.fed waiting f)

pub returns-in-Ok-clause-went : goal.returns-in-Ok-clause-went
returns-in-Ok-clause-went g c = λ state h ready waiting f.
    let bytes = with_line (waits_of waiting c.args.session) c.args.text.now in
    next_command (λ all. Went 21 (IsSilent c.args.self.now.pending (g.K.Sink.held c.args.output.now) c.send_command.new.self.pending (g.K.Sink.held c.send_command.new.output)) c.played.result state all
    (tally c.args.self.now.core c.args.self.now.eventful c.args.steps.now) (tally c.send_command.new.self.core c.send_command.new.self.eventful c.send_command.new.steps))
    state waiting c.args.tick c.args.session c.args.text.now (open_as state c.args.self.now.core c.args.session true h c.requires.open) (sym (c.feed.ensures.whole waiting f) ∙ c.if-not-feed.false)
    (went_more 21 _ c.send_command.result c.played.result state (going_to c.args.tick ∷ []) (sent c.args.session bytes ∷ []) _ _ _ c.played.ensures
    (sent_makes_none c.args.session bytes) (c.in-Ok.ensures.went state h ready) (c.send_command.ensures.calls (after state (going_to c.args.tick)) (c.in-Ok.ensures.core refl state h)))
