use Rattle.pb_lazy.proofs.CallLemmas.{loose_stays}
use Rattle.pb_lazy.proofs.lazies.Lazy.is_unmoved.Goals as goal

pub returns : goal.returns
returns c = λ e.
    loose_stays c.args.buses.now.bus c.args.self.now c.nothing_stands_at_zero.ensures (c.requires.loose c.if-self.false) c.requires.narrow
