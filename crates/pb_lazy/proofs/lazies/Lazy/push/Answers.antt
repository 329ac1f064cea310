use Rattle.pb_lazy.proofs.CallLemmas.{pushed_is}
use Rattle.pb_lazy.proofs.lazies.Lazy.push.Goals as goal

pub returns : goal.returns
returns c =
    pushed_is c.args.buses.now.bus c.args.tick c.args.self.now c.settle.new.self c.push.new.self c.next_turn-self.result c.is_wired-wired.result c.settle.ensures
    c.push.ensures.unit c.push.ensures.bits c.push.ensures.positions c.next_turn-self.ensures
    c.is_wired-wired.ensures c.nothing_stands_at_zero.ensures
