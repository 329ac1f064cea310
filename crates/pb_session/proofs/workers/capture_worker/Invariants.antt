use Rattle.pb_session.specs.Calls.{Keeps}
use Rattle.pb_session.specs.Workers.{Advances}
use Rattle.pb_session.proofs.workers.capture_worker.Given as goal

abbrev pub invariant-loop-round : goal.invariant-loop-round
invariant-loop-round g l =
    record {
      keeps : Keeps l.fn.pass l.pass;
      advances : Advances g.V.Server.opening l._round l.fn.pass l.pass (g.P.Pacer.moments l.fn.pacer) (g.P.Pacer.moments l.pacer);
    }
