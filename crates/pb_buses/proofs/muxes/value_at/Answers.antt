use Rattle.pb_buses.proofs.DelayLemmas.{digit_seen}
use Rattle.pb_buses.proofs.muxes.value_at.Goals as goal

pub returns : goal.returns
returns c = rw (c.from.ensures, c.from-2.ensures) (digit_seen c.args.line c.args.delay c.args.selected c.requires)
