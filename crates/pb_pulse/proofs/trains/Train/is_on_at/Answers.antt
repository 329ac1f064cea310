use Rattle.std.proofs.Common.{arith, sym}
use Rattle.pb_pulse.proofs.TrainLemmas.{on_by_last, off_before}
use Rattle.pb_pulse.proofs.trains.Train.is_on_at.Goals as goal

pub returns-then-tick-self : goal.returns-then-tick-self
returns-then-tick-self c = sym (off_before c.args.tick c.args.self (omega arith))

pub returns : goal.returns
returns c =
    let e = on_by_last c.args.tick c.args.self c.begun-pulse.result c.begun-pulse.ensures.below c.begun-pulse.ensures.begun c.begun-pulse.ensures.last in
    rw (c.from.ensures, c.rise.ensures.value, c.from-2.ensures) (sym e)
