use Rattle.pb_session.proofs.TakingLemmas.{runs_and_leaves, run_keeps}
use Rattle.pb_session.proofs.streams.counted.Goals as goal

pub returns-clause-ran : goal.returns-clause-ran
returns-clause-ran g c =
    runs_and_leaves g.V.Server.opening c.args.id c.args.line c.run-pass.result.1 c.args.pass c.run-pass.result.0 c.leave-pass.result (g.K.Sink.held c.args.sink.now) (g.K.Sink.held c.run-pass.new.sink) c.leave-pass.ensures c.run-pass.ensures.ran

pub returns-clause-pass : goal.returns-clause-pass
returns-clause-pass g c =
    run_keeps g.V.Server.opening c.args.id c.args.line c.run-pass.result.1 c.args.pass c.leave-pass.result (g.K.Sink.held c.args.sink.now) (g.K.Sink.held c.run-pass.new.sink) (returns-clause-ran g c)
