use Rattle.std.proofs.Common.{◌++◌, take}
use Rattle.pb_session.proofs.EndingLemmas.{takes_twice}
use Rattle.pb_session.proofs.lines.read_line.Goals as goal

pub returns-in-Err-clause-none : goal.returns-in-Err-clause-none
returns-in-Err-clause-none g c =
    let piece = take c.in-Some.n c.read.new.buf in (
      c.loop-n.line ++ piece,
      takes_twice (g.S.Source.left c.args.source.now) (g.S.Source.left c.loop-n.source) (g.S.Source.left c.read.new.self) c.loop-n.line piece c.loop-n.invariant.read c.in-Some.ensures.reads.1,
    )
