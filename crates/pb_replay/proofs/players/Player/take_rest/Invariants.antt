use Rattle.std.proofs.Common.{◌≡◌, ◌≤◌}
use Rattle.pb_core.specs.Answer.{CoreState}
use Rattle.pb_core.specs.Kept.{Agrees}
use Rattle.pb_core.specs.Sessions.{session_ids}
use Rattle.pb_replay.specs.Events.{takes_of_all}
use Rattle.pb_replay.specs.Tallies.{tally, AddsCalls}
use Rattle.pb_replay.proofs.TakenPieces.{Comes}
use Rattle.pb_replay.proofs.ReadersPlayed.{left_from}
use Rattle.pb_replay.proofs.players.Player.take_rest.Given as goal

abbrev pub invariant-loop-session : goal.invariant-loop-session
invariant-loop-session g l =
    record {
      played : (state : CoreState) → Agrees l.fn.self.core state →
          Comes state (takes_of_all state session_ids) l.self.core (left_from l.session) l.fn.self.pending l.self.pending (g.K.Sink.held l.fn.output) (g.K.Sink.held l.output);
      calls : (state : CoreState) → Agrees l.fn.self.core state →
          AddsCalls 0 (tally l.fn.self.core l.fn.self.eventful l.fn.steps) (tally l.self.core l.self.eventful l.steps);
      assemblers : l.self.assemblers ≡ l.fn.self.assemblers;
      count : g.K.Sink.faults l.fn.output ≤ g.K.Sink.faults l.output;
    }
