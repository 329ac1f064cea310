use Rattle.std.proofs.Common.{ℕ, ◌<◌, ◌≤◌, arith, take}
use Rattle.pb_lazy.specs.declared.lazies.Lazy.{Lazy}
use Rattle.pb_lazy.proofs.ListLemmas.{all_more, all_done, all_here, all_map}
use Rattle.pb_lazy.proofs.lists.first_due.Goals as goal

pub loop-lazy-preserved : goal.loop-lazy-preserved
loop-lazy-preserved c =
    let lazies = c.args.lazies.now in
    let i = c.loop-lazy.lazy-index in
    let lazy : Lazy = c.lazy-item.result in
    let first : ℕ = c.least-first.result in
    let inv = c.loop-lazy.invariant in
    record {
      within = omega (arith, c.least-first.ensures.first, inv.within);
      each =
          all_more (λ (l : Lazy). (first ≤ l.due) × (first ≤ l.turn)) lazies i lazy c.loop-lazy-test.true c.lazy-item.is
          (all_map (λ (l : Lazy). (c.loop-lazy.first ≤ l.due) × (c.loop-lazy.first ≤ l.turn)) (λ (l : Lazy). (first ≤ l.due) × (first ≤ l.turn))
          (λ l h. (omega (arith, c.least-first.ensures.first, h.0), omega (arith, c.least-first.ensures.first, h.1))) (take i lazies) inv.each)
          (c.least-first.ensures.second, c.least-first.ensures.third);
      ahead = λ tick below all.
          let here = all_here (λ (l : Lazy). (tick < l.due) × (tick < l.turn)) lazies i lazy c.loop-lazy-test.true c.lazy-item.is all in
          c.least-first.ensures.ahead tick (inv.ahead tick below all) here.0 here.1;
    }

pub returns : goal.returns
returns c =
    let inv = c.loop-lazy.invariant in
    record {
      within = inv.within;
      each =
          all_done (λ (l : Lazy). (c.loop-lazy.first ≤ l.due) × (c.loop-lazy.first ≤ l.turn)) c.args.lazies.now c.loop-lazy.lazy-index
          c.loop-lazy-test.false inv.each;
      ahead = inv.ahead;
    }
