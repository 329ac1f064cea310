use Rattle.std.proofs.Common.{◌≡◌, false, sym}
use Rattle.std.proofs.lemmas.Bool.{false≢true}
use Rattle.pb_still.specs.Eventful.{IsIdle}
use Rattle.pb_lazy.specs.declared.lazies.Lazy.{Lazy}
use Rattle.pb_lazy.specs.Lazy.{saw, caught_up, IsSound}
use Rattle.pb_lazy.proofs.ListLemmas.{all_more, all_done, all_here, one_busy}
use Rattle.pb_lazy.proofs.lists.is_one_busy.Goals as goal

pub is_busy-requires : goal.is_busy-requires
is_busy-requires c =
    let lazies = c.args.lazies.now in
    let i = c.loop-lazy.lazy-index in
    record {
      sound = all_here (IsSound c.args.tick false) lazies i c.lazy-item.result c.loop-lazy-test.true c.lazy-item.is c.requires.sound;
      known = all_here (λ (lazy : Lazy). lazy.outdated ≡ false) lazies i c.lazy-item.result c.loop-lazy-test.true c.lazy-item.is c.requires.known;
      tick = c.requires.tick;
    }

pub returns-then-is_busy : goal.returns-then-is_busy
returns-then-is_busy c =
    record {
      busy = λ e.
          one_busy c.args.buses.now.bus c.args.tick c.args.lazies.now c.loop-lazy.lazy-index c.lazy-item.result c.loop-lazy-test.true c.lazy-item.is
          (c.is_busy.ensures.busy c.if-is_busy.true);
      idle = λ e. absurd (false≢true (sym e));
    }

pub loop-lazy-preserved : goal.loop-lazy-preserved
loop-lazy-preserved c =
    all_more (λ (lazy : Lazy). IsIdle c.args.buses.now.bus c.args.tick (saw false lazy) (caught_up c.args.tick lazy)) c.args.lazies.now
    c.loop-lazy.lazy-index c.lazy-item.result c.loop-lazy-test.true c.lazy-item.is c.loop-lazy.invariant (c.is_busy.ensures.idle c.if-is_busy.false)

pub returns : goal.returns
returns c =
    record {
      busy = λ e. absurd (false≢true e);
      idle = λ e.
          all_done (λ (lazy : Lazy). IsIdle c.args.buses.now.bus c.args.tick (saw false lazy) (caught_up c.args.tick lazy)) c.args.lazies.now
          c.loop-lazy.lazy-index c.loop-lazy-test.false c.loop-lazy.invariant;
    }
