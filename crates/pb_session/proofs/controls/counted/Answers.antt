use Rattle.pb_session.proofs.EndingLemmas.{ends_with_close, ended_keeps}
use Rattle.pb_session.specs.Controls.{session_of}
use Rattle.pb_session.proofs.controls.counted.Goals as goal

pub returns-clause-ended : goal.returns-clause-ended
returns-clause-ended g c =
    ends_with_close g.V.Server.opening c.args.id c.serve-pass.result.1 c.args.pass c.serve-pass.result.0 c.end-pass.result (g.S.Source.left c.args.source.now) (g.S.Source.left c.serve-pass.new.source)
    (g.K.Sink.held c.args.sink.now) (g.K.Sink.held c.serve-pass.new.sink) c.serve-pass.ensures.began c.end-pass.ensures (c.serve-pass.ensures.ended c.args.pass c.begin-pass.ensures)

pub returns-clause-pass : goal.returns-clause-pass
returns-clause-pass g c =
    ended_keeps g.V.Server.opening c.args.id (session_of c.args.id) c.serve-pass.result.1 c.args.pass c.end-pass.result (g.S.Source.left c.args.source.now) (g.S.Source.left c.serve-pass.new.source)
    (g.K.Sink.held c.args.sink.now) (g.K.Sink.held c.serve-pass.new.sink) (returns-clause-ended g c)
