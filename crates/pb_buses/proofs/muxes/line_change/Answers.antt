use Rattle.pb_buses.specs.Delay.{digits}
use Rattle.pb_buses.proofs.NextChangeLemmas.{at_last, found, other_level}
use Rattle.pb_buses.proofs.muxes.line_change.Goals as goal

pub returns-then-value_at-seen-clause-next : goal.returns-then-value_at-seen-clause-next
returns-then-value_at-seen-clause-next c =
    let place = c.loop-passed.passed in
    rw c.from.ensures
    (found (record { select = 0; delay = c.args.delay; line = digits 31 c.args.line }) c.args.selected c.value_at-seen.result
    c.value_at.result place c.requires c.value_at-seen.ensures c.loop-passed.invariant c.value_at.ensures
    (other_level _ _ c.if-value_at-seen.true))

pub returns-clause-next : goal.returns-clause-next
returns-clause-next c =
    at_last (record { select = 0; delay = c.args.delay; line = digits 31 c.args.line }) c.args.selected c.value_at-seen.result
    c.loop-passed.passed c.requires c.loop-passed-test.false c.value_at-seen.ensures c.loop-passed.invariant
