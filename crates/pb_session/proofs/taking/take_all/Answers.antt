use Rattle.std.proofs.Common.{rules}
use Rattle.pb_session.proofs.TakingLemmas.{going_first}
use Rattle.pb_session.proofs.taking.take_all.Goals as goal

pub loop-init : goal.loop-init
loop-init g c =
    record {
      goes_on = (tt, tt);
      turn = c.requires.turn;
      going = λ start before a. going_first g.V.Server.opening c.args.id start c.args.pass before (g.K.Sink.held c.args.sink.now) a;
      count = search rules;
    }
