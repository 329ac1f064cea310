use Rattle.std.proofs.Common.{arith}
use Rattle.pb_core.proofs.DeedLemmas.{one_field}
use Rattle.pb_core.proofs.captures.captures_reply.Goals as goal

pub loop-i-preserved : goal.loop-i-preserved
loop-i-preserved c =
    one_field c.layout-layout.result c.loop-i.i c.loop-i.text c.list_capture.new.text c.field.result
    (omega (arith, c.loop-i-test.true, c.len-i-end.ensures.value)) c.field.ensures.value c.loop-i.invariant c.in_ok-list_capture.ensures
