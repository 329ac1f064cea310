use Rattle.pb_lazy.proofs.CallLemmas.{look_is}
use Rattle.pb_lazy.proofs.lazies.Lazy.look.Goals as goal

pub returns : goal.returns
returns c = look_is c.args.buses.now.bus c.args.tick c.args.self.now c.inputs-seen.result c.seen_late-seen.result c.inputs-seen.ensures c.seen_late-seen.ensures
