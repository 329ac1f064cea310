use Rattle.std.proofs.Common.{◌≡◌, ◌<◌, ◌≤◌, ◌+◌, ◌^◌, ◌++◌, [], ◌∷◌, length, drop, sym, subst, ◌∙◌, arith, rules, if◌then◌else◌}
use Rattle.pb_lazy.specs.declared.lazies.Lazy.{Lazy}
use Rattle.pb_lazy.specs.Meeting.{IsRefreshed, AreRefreshed}
use Rattle.pb_lazy.proofs.ListLemmas.{all_here, drop_none, begin_refreshed, refresh_is, refresh_items, refresh_more, refresh_count, refresh_all_done, front_is}
use Rattle.pb_lazy.proofs.lists.refresh_all.Goals as goal

pub loop-lazy-init : goal.loop-lazy-init
loop-lazy-init g c =
    record {
      done = [];
      items = c.deref_mut-lazy-items.ensures.value ∙ sym (drop_none c.args.lazies.now.items);
      refreshed = begin_refreshed c.args.lazies.now.items;
      counted = omega arith;
    }

pub refresh_one-requires : goal.refresh_one-requires
refresh_one-requires g c =
    let inv = c.loop-lazy.invariant in
    let olds = c.args.lazies.now.items in
    let i = c.loop-lazy.lazy-index in
    let more : i < length olds = subst (λ l. i < length l) c.deref_mut-lazy-items.ensures.value c.loop-lazy-test.true in
    subst (λ (lazy : Lazy). lazy.own < 2 ^ 62) c.lazy-item.is
    (all_here (λ (lazy : Lazy). lazy.own < 2 ^ 62) olds i c.lazy-item.result more
    (refresh_is olds c.loop-lazy.lazy-items inv.done i c.args.steps.now c.loop-lazy.steps inv.items inv.refreshed inv.counted c.lazy-item.result more c.lazy-item.is)
    c.requires)

pub loop-lazy-preserved : goal.loop-lazy-preserved
loop-lazy-preserved g c =
    let inv = c.loop-lazy.invariant in
    let olds = c.args.lazies.now.items in
    let i = c.loop-lazy.lazy-index in
    let items = c.loop-lazy.lazy-items in
    let more : i < length olds = subst (λ l. i < length l) c.deref_mut-lazy-items.ensures.value c.loop-lazy-test.true in
    let back = sym c.lazy-item.is in
    record {
      done = inv.done ++ c.refresh_one.new.lazy ∷ [];
      items = refresh_items olds items inv.done i c.args.steps.now c.loop-lazy.steps inv.items inv.refreshed inv.counted c.lazy-item.result c.refresh_one.new.lazy more;
      refreshed =
          refresh_more olds items inv.done i c.args.steps.now c.loop-lazy.steps inv.items inv.refreshed inv.counted c.lazy-item.result
          c.refresh_one.new.lazy more c.lazy-item.is
          (subst (λ (lazy : Lazy). IsRefreshed lazy c.refresh_one.new.lazy) back c.refresh_one.ensures.refreshed);
      counted =
          refresh_count olds items inv.done i c.args.steps.now c.loop-lazy.steps inv.items inv.refreshed inv.counted c.lazy-item.result
          c.refresh_one.new.steps more c.lazy-item.is
          (subst (λ (lazy : Lazy). c.refresh_one.new.steps ≤ c.loop-lazy.steps + (if lazy.outdated then 1 else 0)) back c.refresh_one.ensures.counts);
    }

pub returns : goal.returns
returns g c =
    let inv = c.loop-lazy.invariant in
    let olds = c.args.lazies.now.items in
    let items = c.loop-lazy.lazy-items in
    let i = c.loop-lazy.lazy-index in
    let far : length olds ≤ i = subst (λ l. length l ≤ i) c.deref_mut-lazy-items.ensures.value c.loop-lazy-test.false in
    let many : length c.loop-lazy.lazy-items ≡ c.args.lazies.now.len = first_of (omega arith, search rules) in
    let all = refresh_all_done olds items inv.done i c.args.steps.now c.loop-lazy.steps inv.items inv.refreshed inv.counted far in
    record {
      refreshed = subst (AreRefreshed olds) (sym (front_is c.args.lazies.now.len items (drop (length items) olds) many)) all.0;
      counts = all.1;
    }
