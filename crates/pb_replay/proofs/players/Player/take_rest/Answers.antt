use Rattle.std.proofs.Common.{refl, ◌∙◌, arith}
use Rattle.pb_core.specs.Sessions.{session_ids}
use Rattle.pb_replay.specs.Events.{takes_of_all}
use Rattle.pb_replay.proofs.PendingLemmas.{rose_later}
use Rattle.pb_replay.proofs.TakenPieces.{comes_first, comes_all, comes_to}
use Rattle.pb_replay.proofs.ReadersPlayed.{sessions_more, sessions_break, sessions_over, left_from}
use Rattle.pb_replay.proofs.TallyLemmas.{calls_none, calls_twice}
use Rattle.pb_replay.proofs.players.Player.take_rest.Goals as goal

pub loop-session-init : goal.loop-session-init
loop-session-init g c =
    record {
      played = λ state h. comes_first state c.args.self.now.core (left_from 1) c.args.self.now.pending (g.K.Sink.held c.args.output.now) h;
      calls = λ state h. calls_none _;
      assemblers = refl;
      count = omega arith;
    }

pub loop-session-preserved : goal.loop-session-preserved
loop-session-preserved g c =
    let inv = c.loop-session.invariant in
    record {
      played = λ state h.
          sessions_more c.loop-session.session state (takes_of_all state session_ids) c.loop-session.self.core c.take_all.new.self.core
          c.args.self.now.pending c.loop-session.self.pending c.take_all.new.self.pending
          (g.K.Sink.held c.args.output.now) (g.K.Sink.held c.loop-session.output) (g.K.Sink.held c.take_all.new.output)
          c.loop-session-test.true (inv.played state h) c.in-Ok.ensures.plays (c.in-Ok.ensures.core refl);
      calls = λ state h.
          calls_twice 0 0 0 _ _ _ refl (inv.calls state h) (c.take_all.ensures.calls (inv.played state h).reached (inv.played state h).agrees);
      assemblers = c.take_all.ensures.assemblers ∙ inv.assemblers;
      count = omega (arith, inv.count, c.take_all.ensures.count);
    }

pub returns-in_default : goal.returns-in_default
returns-in_default g c =
    let inv = c.loop-session.invariant in
    record {
      plays = λ state h.
          sessions_break c.take_all.result c.loop-session.session state (takes_of_all state session_ids) c.loop-session.self.core
          c.args.self.now.pending c.loop-session.self.pending c.take_all.new.self.pending
          (g.K.Sink.held c.args.output.now) (g.K.Sink.held c.loop-session.output) (g.K.Sink.held c.take_all.new.output)
          c.in_default.not-Ok c.loop-session-test.true (inv.played state h) c.take_all.ensures.plays;
      core = λ is. absurd (c.in_default.not-Ok is);
      calls = λ state h.
          calls_twice 0 0 0 _ _ _ refl (inv.calls state h) (c.take_all.ensures.calls (inv.played state h).reached (inv.played state h).agrees);
      assemblers = c.take_all.ensures.assemblers ∙ inv.assemblers;
      cause = λ is. rose_later _ _ _ inv.count (c.take_all.ensures.cause is);
      count = omega (arith, inv.count, c.take_all.ensures.count);
    }

pub returns : goal.returns
returns g c =
    let inv = c.loop-session.invariant in
    record {
      plays = λ state h.
          comes_all state (takes_of_all state session_ids) c.loop-session.self.core (left_from c.loop-session.session)
          c.args.self.now.pending c.loop-session.self.pending (g.K.Sink.held c.args.output.now) (g.K.Sink.held c.loop-session.output)
          (λ s. sessions_over c.loop-session.session s c.loop-session-test.false) (inv.played state h);
      core = λ is state h.
          comes_to state (takes_of_all state session_ids) c.loop-session.self.core (left_from c.loop-session.session)
          c.args.self.now.pending c.loop-session.self.pending (g.K.Sink.held c.args.output.now) (g.K.Sink.held c.loop-session.output)
          (λ s. sessions_over c.loop-session.session s c.loop-session-test.false) (inv.played state h);
      calls = inv.calls;
      assemblers = inv.assemblers;
      cause = λ is. cc;
      count = inv.count;
    }
