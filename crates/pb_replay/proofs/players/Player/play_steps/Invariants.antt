use Rattle.std.proofs.Common.{◌≤◌}
use Rattle.pb_still.specs.Eventful.{IsEventful}
use Rattle.pb_core.specs.Answer.{CoreState, moment_of}
use Rattle.pb_core.specs.Kept.{Agrees}
use Rattle.pb_replay.specs.Steps.{step_line}
use Rattle.pb_replay.specs.Tallies.{tally}
use Rattle.pb_replay.proofs.ScriptLemmas.{Stands}
use Rattle.pb_replay.proofs.players.Player.play_steps.Given as goal

abbrev pub invariant-loop-moment : goal.invariant-loop-moment
invariant-loop-moment g l =
    record {
      played : (state : CoreState) → Agrees l.fn.self.core state → IsEventful (moment_of state) →
          Stands (step_line l.bytes) state l.self.core l.self.assemblers l.self.pending l.moments l.moment-index (g.K.Sink.held l.fn.output) (g.K.Sink.held l.output)
          (tally l.fn.self.core l.fn.self.eventful l.fn.steps) (tally l.self.core l.self.eventful l.steps);
      count : g.K.Sink.faults l.fn.output ≤ g.K.Sink.faults l.output;
    }
