use Rattle.pb_buses.proofs.DelayLemmas.{word_next}
use Rattle.pb_buses.proofs.muxes.line_next.Goals as goal

pub returns : goal.returns
returns c = rw (c.from.ensures, c.from-2.ensures) (word_next c.args.line c.args.selected)
