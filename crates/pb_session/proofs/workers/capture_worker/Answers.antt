use Rattle.std.proofs.Common.{refl}
use Rattle.pb_core.specs.declared.Event.TheVariants as events
use Rattle.pb_session.specs.Calls.{entry}
use Rattle.pb_session.proofs.CallLemmas.{keeps_twice}
use Rattle.pb_session.proofs.WorkerLemmas.{advances_more}
use Rattle.pb_session.proofs.workers.capture_worker.Goals as goal

pub loop-round-preserved : goal.loop-round-preserved
loop-round-preserved g c =
    record {
      keeps = keeps_twice c.args.pass c.loop-round.pass c.happen-next.result.0 c.loop-round.invariant.keeps c.happen-next.ensures.adds.same;
      advances = advances_more g.V.Server.opening c.args.pass c.loop-round.pass c.happen-next.result.0 c.loop-round._round c.now-to.result (g.P.Pacer.moments c.args.pacer.now) (g.P.Pacer.moments c.loop-round.pacer)
          (g.P.Pacer.moments c.now-to.new.self) (g.P.Pacer.moments c.pause.new.self) (entry (events.Advance c.now-to.result 10000) c.happen-next.result.1) c.now-to.ensures.tick c.now-to.ensures.tells c.pause.ensures refl
          c.happen-next.ensures.adds c.loop-round.invariant.advances;
    }
