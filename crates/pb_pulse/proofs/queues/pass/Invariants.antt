use Rattle.std.proofs.Common.{◌≡◌, ◌||◌, length}
use Rattle.pb_pulse.specs.Queue.{InOrder, is_any_on, left}
use Rattle.pb_pulse.proofs.queues.pass.Given as goal

abbrev pub invariant-loop-front : goal.invariant-loop-front
invariant-loop-front l = record {
  ordered : InOrder 0 l.trains.items;
  out : is_any_on l.fn.tick l.fn.trains.items ≡ (l.out || is_any_on l.fn.tick l.trains.items);
  rest : left l.fn.tick l.fn.trains.items ≡ left l.fn.tick l.trains.items;
  room : l.trains.capacity ≡ l.fn.trains.capacity;
}

abbrev pub decreases-loop-front : goal.decreases-loop-front
decreases-loop-front l = length l.trains.items
