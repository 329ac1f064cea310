use Rattle.std.proofs.Common.{sym, ◌∙◌, arith}
use Rattle.pb_core.specs.Captures.{is_busy_reading}
use Rattle.pb_core.proofs.SessionLemmas.{one_counted, none_counted}
use Rattle.pb_core.proofs.captures.active_count.Goals as goal

pub loop-id-preserved-then-not-is_active : goal.loop-id-preserved-then-not-is_active
loop-id-preserved-then-not-is_active c =
    let inv = c.loop-id.invariant in
    record {
      counted = λ all a.
          none_counted (is_busy_reading all) c.loop-id.id c.loop-id.count c.loop-id-test.true (sym (c.is_active.ensures all a) ∙ c.if-not-is_active.true) (inv.counted all a);
      from_one = omega (arith, inv.from_one);
      small = omega (arith, inv.small);
    }

pub loop-id-preserved : goal.loop-id-preserved
loop-id-preserved c =
    let inv = c.loop-id.invariant in
    record {
      counted = λ all a.
          one_counted (is_busy_reading all) c.loop-id.id c.loop-id.count c.loop-id-test.true (sym (c.is_active.ensures all a) ∙ c.if-not-is_active.false) (inv.counted all a);
      from_one = omega (arith, inv.from_one);
      small = omega (arith, inv.small);
    }
