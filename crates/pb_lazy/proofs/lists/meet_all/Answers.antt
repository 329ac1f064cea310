use Rattle.std.proofs.Common.{◌≡◌, ◌<◌, ◌≤◌, ◌+◌, ◌⊎◌, ◌++◌, [], ◌∷◌, false, length, drop, sym, subst, ◌∙◌, arith, rules}
use Rattle.pb_model.specs.Tick.{emitted_by, or_before}
use Rattle.pb_still.specs.Eventful.{IsIdle}
use Rattle.pb_lazy.specs.declared.lazies.Lazy.{Lazy}
use Rattle.pb_lazy.specs.Lazy.{caught_up, saw, IsSound, IsMet}
use Rattle.pb_lazy.specs.Meeting.{MetSoFar}
use Rattle.pb_lazy.proofs.ListLemmas.{all_here, drop_none, begin_met, next_is, next_met, next_items, all_met, front_is}
use Rattle.pb_lazy.proofs.lists.meet_all.Goals as goal

pub loop-lazy-init : goal.loop-lazy-init
loop-lazy-init g c =
    record {
      done = [];
      items = c.deref_mut-lazy-items.ensures.value ∙ sym (drop_none c.args.lazies.now.items);
      met = begin_met c.args.buses.now.bus c.args.tick c.args.first c.args.lazies.now.items c.args.steps.now;
    }

pub meet-requires-clause-sound : goal.meet-requires-clause-sound
meet-requires-clause-sound g c =
    let inv = c.loop-lazy.invariant in
    let olds = c.args.lazies.now.items in
    let i = c.loop-lazy.lazy-index in
    let more : i < length olds = subst (λ l. i < length l) c.deref_mut-lazy-items.ensures.value c.loop-lazy-test.true in
    let same =
    next_is c.args.buses.now.bus c.args.tick c.args.first olds c.loop-lazy.lazy-items i c.loop-lazy.emit c.args.steps.now c.loop-lazy.steps inv.done
    inv.items inv.met c.lazy-item.result more c.lazy-item.is in
    subst (IsSound c.args.tick c.args.first) c.lazy-item.is
    (all_here (IsSound c.args.tick c.args.first) olds i c.lazy-item.result more same c.requires.sound)

pub meet-requires-clause-known : goal.meet-requires-clause-known
meet-requires-clause-known g c =
    let inv = c.loop-lazy.invariant in
    let olds = c.args.lazies.now.items in
    let i = c.loop-lazy.lazy-index in
    let more : i < length olds = subst (λ l. i < length l) c.deref_mut-lazy-items.ensures.value c.loop-lazy-test.true in
    let same =
    next_is c.args.buses.now.bus c.args.tick c.args.first olds c.loop-lazy.lazy-items i c.loop-lazy.emit c.args.steps.now c.loop-lazy.steps inv.done
    inv.items inv.met c.lazy-item.result more c.lazy-item.is in
    subst (λ (lazy : Lazy). lazy.outdated ≡ false) c.lazy-item.is
    (all_here (λ (lazy : Lazy). lazy.outdated ≡ false) olds i c.lazy-item.result more same c.requires.known)

pub loop-lazy-preserved : goal.loop-lazy-preserved
loop-lazy-preserved g c =
    let inv = c.loop-lazy.invariant in
    let olds = c.args.lazies.now.items in
    let i = c.loop-lazy.lazy-index in
    let bus = c.args.buses.now.bus in
    let tick = c.args.tick in
    let first = c.args.first in
    let more : i < length olds = subst (λ l. i < length l) c.deref_mut-lazy-items.ensures.value c.loop-lazy-test.true in
    let back = sym c.lazy-item.is in
    record {
      done = inv.done ++ c.meet.new.self ∷ [];
      items =
          next_items bus tick first olds c.loop-lazy.lazy-items i c.loop-lazy.emit c.args.steps.now c.loop-lazy.steps
          inv.done inv.items inv.met c.lazy-item.result c.meet.new.self more;
      met =
          next_met bus tick first olds c.loop-lazy.lazy-items i c.loop-lazy.emit c.args.steps.now c.loop-lazy.steps
          inv.done inv.items inv.met c.lazy-item.result c.meet.new.self c.meet.new.emit c.meet.new.steps more c.lazy-item.is
          (subst (λ (lazy : Lazy). IsMet bus tick lazy c.meet.new.self) back c.meet.ensures.met)
          (subst (λ (lazy : Lazy). c.meet.new.emit ≡ or_before c.loop-lazy.emit (emitted_by bus tick (caught_up tick lazy))) back c.meet.ensures.emits)
          (subst (λ (lazy : Lazy). (IsIdle bus tick (saw first lazy) (caught_up tick lazy) × (c.meet.new.steps ≡ c.loop-lazy.steps))
          ⊎ (¬ (IsIdle bus tick (saw first lazy) (caught_up tick lazy)) × (c.meet.new.steps ≤ c.loop-lazy.steps + 3))) back c.meet.ensures.counts);
    }

pub returns : goal.returns
returns g c =
    let inv = c.loop-lazy.invariant in
    let olds = c.args.lazies.now.items in
    let items = c.loop-lazy.lazy-items in
    let i = c.loop-lazy.lazy-index in
    let far : length olds ≤ i = subst (λ l. length l ≤ i) c.deref_mut-lazy-items.ensures.value c.loop-lazy-test.false in
    let many : length c.loop-lazy.lazy-items ≡ c.args.lazies.now.len = first_of (omega arith, search rules) in
    subst (λ l. MetSoFar c.args.buses.now.bus c.args.tick c.args.first olds l c.loop-lazy.emit c.args.steps.now c.loop-lazy.steps)
    (sym (front_is c.args.lazies.now.len items (drop (length items) olds) many))
    (all_met c.args.buses.now.bus c.args.tick c.args.first olds items i c.loop-lazy.emit c.args.steps.now c.loop-lazy.steps inv.done
    inv.items inv.met far)
