use Rattle.std.proofs.Common.{◌≡◌, arith, ap, sym, subst, ◌∙◌, false}
use Rattle.circular_buffer.specs.Buffer.{Buffer}
use Rattle.pb_pulse.specs.declared.trains.Train.{Train}
use Rattle.pb_pulse.specs.Queue.{is_dropped, InOrder}
use Rattle.pb_pulse.proofs.QueueLemmas.{CanFollow, can_follow, in_order-more, all_kept}
use Rattle.pb_pulse.proofs.queues.Queue.ask.Goals as goal

pub invariant_of-self : goal.invariant_of-self
invariant_of-self c =
    let queue = c.self.inside.trains.items in
    let kept : is_dropped c.args.train queue ≡ false =
    ap (is_dropped c.args.train) c.self.view_is ∙ sym c.drops.ensures ∙ c.if-drops.false in
    let follows : CanFollow c.args.train queue = can_follow c.args.train queue c.requires kept in
    let items =
    ap (λ (b : Buffer Train). b.items) c.push_back.ensures.items
    ∙ all_kept queue c.args.train c.self.inside.trains.capacity c.self.invariant.0 follows.space in (
      ap (λ (b : Buffer Train). b.capacity) c.push_back.ensures.items ∙ c.self.invariant.0,
      subst (InOrder 0) (sym items) (in_order-more 0 queue c.args.train c.self.invariant.1 (omega arith) follows),
    )
