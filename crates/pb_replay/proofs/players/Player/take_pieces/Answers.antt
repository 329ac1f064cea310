use Rattle.std.proofs.Common.{refl, sym, subst, ◌∙◌, arith}
use Rattle.pb_core.specs.declared.Event.TheVariants as events
use Rattle.pb_replay.specs.Events.{takes_up_to, most_takes}
use Rattle.pb_replay.specs.Output.{written}
use Rattle.pb_replay.specs.Pending.{PlaysOn}
use Rattle.pb_replay.proofs.PendingLemmas.{rose_later}
use Rattle.pb_replay.proofs.TakenPieces.{comes_all, comes_to}
use Rattle.pb_replay.proofs.ReadersPlayed.{pieces_first, pieces_more, pieces_last, pieces_break, all_written, all_left, left_after, turns_over}
use Rattle.pb_replay.proofs.TallyLemmas.{calls_none, calls_twice}
use Rattle.pb_replay.proofs.players.Player.take_pieces.Goals as goal

pub loop-turn-init : goal.loop-turn-init
loop-turn-init g c =
    record {
      played = λ state h. pieces_first c.args.session state c.args.self.now.core c.args.self.now.pending (g.K.Sink.held c.args.output.now) h;
      calls = λ state h. calls_none _;
      assemblers = refl;
      count = omega arith;
    }

pub returns-in_default : goal.returns-in_default
returns-in_default g c =
    let inv = c.loop-turn.invariant in
    record {
      plays = λ state h.
          pieces_break c.take_piece-told.result.0 c.loop-turn._turn c.args.session state (takes_up_to most_takes state c.args.session) c.loop-turn.self.core
          c.args.self.now.pending c.loop-turn.self.pending c.take_piece-told.new.self.pending
          (g.K.Sink.held c.args.output.now) (g.K.Sink.held c.loop-turn.output) (g.K.Sink.held c.take_piece-told.new.output)
          c.in_default.not-Ok c.loop-turn-test.true (inv.played state h) c.take_piece-told.ensures.plays;
      core = λ is. absurd (c.in_default.not-Ok is);
      calls = λ state h.
          calls_twice 0 0 0 _ _ _ refl (inv.calls state h) (c.take_piece-told.ensures.calls (inv.played state h).reached (inv.played state h).agrees);
      assemblers = c.take_piece-told.ensures.assemblers ∙ inv.assemblers;
      cause = λ is. rose_later _ _ _ inv.count (c.take_piece-told.ensures.cause is);
      count = omega (arith, inv.count, c.take_piece-told.ensures.count);
    }

pub returns : goal.returns
returns g c =
    let inv = c.loop-turn.invariant in
    record {
      plays = λ state h.
          comes_all state (takes_up_to most_takes state c.args.session) c.loop-turn.self.core (left_after c.loop-turn._turn c.args.session)
          c.args.self.now.pending c.loop-turn.self.pending (g.K.Sink.held c.args.output.now) (g.K.Sink.held c.loop-turn.output)
          (λ s. turns_over c.loop-turn._turn c.args.session s c.loop-turn-test.false) (inv.played state h);
      core = λ is state h.
          comes_to state (takes_up_to most_takes state c.args.session) c.loop-turn.self.core (left_after c.loop-turn._turn c.args.session)
          c.args.self.now.pending c.loop-turn.self.pending (g.K.Sink.held c.args.output.now) (g.K.Sink.held c.loop-turn.output)
          (λ s. turns_over c.loop-turn._turn c.args.session s c.loop-turn-test.false) (inv.played state h);
      calls = inv.calls;
      assemblers = inv.assemblers;
      cause = λ is. cc;
      count = inv.count;
    }

pub returns-then-not-more-clause-plays : goal.returns-then-not-more-clause-plays
returns-then-not-more-clause-plays g c = λ state h.
    all_written state (takes_up_to most_takes state c.args.session) c.take_piece-told.new.self.core c.args.self.now.pending c.take_piece-told.new.self.pending
    (g.K.Sink.held c.args.output.now) (g.K.Sink.held c.take_piece-told.new.output)
    (pieces_last c.loop-turn._turn c.args.session state (takes_up_to most_takes state c.args.session) c.loop-turn.self.core c.take_piece-told.new.self.core
    c.args.self.now.pending c.loop-turn.self.pending c.take_piece-told.new.self.pending
    (g.K.Sink.held c.args.output.now) (g.K.Sink.held c.loop-turn.output) (g.K.Sink.held c.take_piece-told.new.output)
    c.loop-turn-test.true (λ s agrees. sym c.if-not-more.true ∙ c.take_piece-told.ensures.piece c.in-Ok.is s agrees) (c.loop-turn.invariant.played state h)
    (λ s agrees. subst (λ end. PlaysOn (written s (events.Take c.args.session)) end c.loop-turn.self.pending (g.K.Sink.held c.loop-turn.output) c.take_piece-told.new.self.pending (g.K.Sink.held c.take_piece-told.new.output)) c.in-Ok.is
    (c.take_piece-told.ensures.plays s agrees))
    (c.take_piece-told.ensures.core c.in-Ok.is))

pub returns-then-not-more-clause-core : goal.returns-then-not-more-clause-core
returns-then-not-more-clause-core g c = λ there state h.
    all_left state (takes_up_to most_takes state c.args.session) c.take_piece-told.new.self.core c.args.self.now.pending c.take_piece-told.new.self.pending
    (g.K.Sink.held c.args.output.now) (g.K.Sink.held c.take_piece-told.new.output)
    (pieces_last c.loop-turn._turn c.args.session state (takes_up_to most_takes state c.args.session) c.loop-turn.self.core c.take_piece-told.new.self.core
    c.args.self.now.pending c.loop-turn.self.pending c.take_piece-told.new.self.pending
    (g.K.Sink.held c.args.output.now) (g.K.Sink.held c.loop-turn.output) (g.K.Sink.held c.take_piece-told.new.output)
    c.loop-turn-test.true (λ s agrees. sym c.if-not-more.true ∙ c.take_piece-told.ensures.piece c.in-Ok.is s agrees) (c.loop-turn.invariant.played state h)
    (λ s agrees. subst (λ end. PlaysOn (written s (events.Take c.args.session)) end c.loop-turn.self.pending (g.K.Sink.held c.loop-turn.output) c.take_piece-told.new.self.pending (g.K.Sink.held c.take_piece-told.new.output)) c.in-Ok.is
    (c.take_piece-told.ensures.plays s agrees))
    (c.take_piece-told.ensures.core c.in-Ok.is))

pub loop-turn-preserved : goal.loop-turn-preserved
loop-turn-preserved g c =
    let inv = c.loop-turn.invariant in
    record {
      played = λ state h.
          pieces_more c.loop-turn._turn c.args.session state (takes_up_to most_takes state c.args.session) c.loop-turn.self.core c.take_piece-told.new.self.core
          c.args.self.now.pending c.loop-turn.self.pending c.take_piece-told.new.self.pending
          (g.K.Sink.held c.args.output.now) (g.K.Sink.held c.loop-turn.output) (g.K.Sink.held c.take_piece-told.new.output)
          c.loop-turn-test.true (λ s agrees. sym c.if-not-more.false ∙ c.take_piece-told.ensures.piece c.in-Ok.is s agrees) (inv.played state h)
          (λ s agrees. subst (λ end. PlaysOn (written s (events.Take c.args.session)) end c.loop-turn.self.pending (g.K.Sink.held c.loop-turn.output) c.take_piece-told.new.self.pending (g.K.Sink.held c.take_piece-told.new.output)) c.in-Ok.is
          (c.take_piece-told.ensures.plays s agrees))
          (c.take_piece-told.ensures.core c.in-Ok.is);
      calls = λ state h.
          calls_twice 0 0 0 _ _ _ refl (inv.calls state h) (c.take_piece-told.ensures.calls (inv.played state h).reached (inv.played state h).agrees);
      assemblers = c.take_piece-told.ensures.assemblers ∙ inv.assemblers;
      count = omega (arith, inv.count, c.take_piece-told.ensures.count);
    }

pub returns-then-not-more-clause-calls : goal.returns-then-not-more-clause-calls
returns-then-not-more-clause-calls g c = λ state h.
    let inv = c.loop-turn.invariant in
    calls_twice 0 0 0 _ _ _ refl (inv.calls state h) (c.take_piece-told.ensures.calls (inv.played state h).reached (inv.played state h).agrees)
