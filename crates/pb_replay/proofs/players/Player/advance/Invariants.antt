use Rattle.std.proofs.Common.{◌≡◌, ◌<◌}
use Rattle.pb_core.specs.Answer.{CoreState}
use Rattle.pb_core.specs.Kept.{Agrees}
use Rattle.pb_replay.specs.Tallies.{tally, IsOnWay}
use Rattle.pb_replay.proofs.players.Player.advance.Given as goal

abbrev pub invariant-loop-number : goal.invariant-loop-number
invariant-loop-number g l =
    record {
      way : (state : CoreState) → Agrees l.fn.self.core state →
          IsOnWay state l.to l.self.core (tally l.fn.self.core l.fn.self.eventful l.fn.steps) (tally l.self.core l.self.eventful l.steps);
      number : l.self.eventful ≡ l._number;
      few : l.fn.self.eventful < 10000000 → l.self.eventful < 10000000;
      assemblers : l.self.assemblers ≡ l.fn.self.assemblers;
      pending : l.self.pending ≡ l.fn.self.pending;
    }
