use Rattle.pb_lazy.proofs.CallLemmas.{known_is}
use Rattle.pb_lazy.proofs.lazies.Lazy.look_ahead.Goals as goal

pub returns-clause-known : goal.returns-clause-known
returns-clause-known g c = known_is c.args.self.now c.next_due-self.result c.next_due-self.ensures.due
