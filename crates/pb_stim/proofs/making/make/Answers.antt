use Rattle.std.proofs.Common.{arith}
use Rattle.pb_stim.proofs.MakingLemmas.{drawn_more, tick_more, point_more}
use Rattle.pb_stim.proofs.making.make.Goals as goal

pub loop-i-preserved : goal.loop-i-preserved
loop-i-preserved c =
    let seed = c.args.seed in
    let so_far = c.loop-i.invariant in
    let drew = drawn_more seed c.loop-i._i c.loop-i.x c.draw-x.result so_far.drawn c.draw-x.ensures in
    let at = tick_more seed c.loop-i._i c.loop-i.tick c.draw-x.result c.tick_after-tick.result so_far.tick drew c.tick_after-tick.ensures.next in
    record {
      text = point_more seed c.loop-i._i c.tick_after-tick.result c.loop-i.text c.add_point.new.text so_far.text at c.in_ok-add_point.ensures;
      drawn = drew;
      tick = at;
      near = omega (arith, so_far.near, c.tick_after-tick.ensures.near);
    }
