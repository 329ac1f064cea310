use Rattle.std.proofs.Common.{rules, take}
use Rattle.pb_session.proofs.EndingLemmas.{comes_first, comes_more, ends_closed, ends_read, ends_write}
use Rattle.pb_session.proofs.controls.serve.Goals as goal

pub loop-init : goal.loop-init
loop-init g c =
    record {
      goes_on = (tt, tt);
      turn = c.requires.turn;
      comes = λ start a. comes_first g.V.Server.opening c.args.id start c.args.pass (g.S.Source.left c.args.source.now) c.args.assembler.now (g.K.Sink.held c.args.sink.now) c.requires.nothing a;
      reads = search rules;
      writes = search rules;
    }

pub loop-preserved : goal.loop-preserved
loop-preserved g c =
    record {
      goes_on = (tt, tt);
      turn = search rules;
      comes = λ start a.
          comes_more g.V.Server.opening c.args.id start c.loop.pass c.feed-next.result.0 (g.S.Source.left c.args.source.now) (g.S.Source.left c.loop.source) (g.S.Source.left c.read.new.self)
          c.loop.assembler c.feed-next.new.assembler (g.K.Sink.held c.args.sink.now) (g.K.Sink.held c.loop.sink) (g.K.Sink.held c.feed-next.new.sink) (take c.in-Some-read.n c.read.new.buf)
          (λ looked s. let f = c.feed-next.ensures.fed start looked (g.K.Sink.held c.args.sink.now) s in rw c.in-Ok.is at f)
          c.in-Some-read.ensures.reads.1 (c.loop.invariant.comes start a);
      reads = search rules;
      writes = search rules;
    }

pub returns-in-Err-clause-ended : goal.returns-in-Err-clause-ended
returns-in-Err-clause-ended g c start a =
    ends_write g.V.Server.opening c.args.id start c.loop.pass c.feed-next.result.0 (g.S.Source.left c.args.source.now) (g.S.Source.left c.loop.source) (g.S.Source.left c.read.new.self)
    c.loop.assembler c.feed-next.new.assembler (g.K.Sink.held c.args.sink.now) (g.K.Sink.held c.loop.sink) (g.K.Sink.held c.feed-next.new.sink) (take c.in-Some-read.n c.read.new.buf) c.in-Err.field-0
    (λ looked s. let f = c.feed-next.ensures.fed start looked (g.K.Sink.held c.args.sink.now) s in rw c.in-Err.is at f)
    c.in-Some-read.ensures.reads.1 (c.loop.invariant.comes start a)

pub returns-in-End-clause-ended : goal.returns-in-End-clause-ended
returns-in-End-clause-ended g c start a =
    ends_closed g.V.Server.opening c.args.id start c.loop.pass (g.S.Source.left c.args.source.now) (g.S.Source.left c.loop.source) (g.S.Source.left c.read.new.self) c.loop.assembler
    (g.K.Sink.held c.args.sink.now) (g.K.Sink.held c.loop.sink) c.in-End.ensures.reads.0 c.in-End.ensures.reads.1 (c.loop.invariant.comes start a)

pub returns-in-Failed-clause-ended : goal.returns-in-Failed-clause-ended
returns-in-Failed-clause-ended g c start a =
    ends_read g.V.Server.opening c.args.id start c.loop.pass (g.S.Source.left c.args.source.now) (g.S.Source.left c.loop.source) (g.S.Source.left c.read.new.self) c.loop.assembler
    (g.K.Sink.held c.args.sink.now) (g.K.Sink.held c.loop.sink) c.in-Failed.ensures.reads (c.loop.invariant.comes start a)
