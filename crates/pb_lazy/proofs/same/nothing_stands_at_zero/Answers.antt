use Rattle.std.proofs.Common.{subst}
use Rattle.pb_lazy.specs.Lazy.{HasZero}
use Rattle.pb_lazy.proofs.CallLemmas.{zero_is}
use Rattle.pb_lazy.proofs.same.nothing_stands_at_zero.Goals as goal

pub returns : goal.returns
returns c = subst HasZero c.bus-bus.ensures (zero_is c.bus-bus.result.now c.have_entries.ensures.bits c.have_entries.ensures.positions)
