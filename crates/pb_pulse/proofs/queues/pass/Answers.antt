use Rattle.std.proofs.Common.{◌≡◌, ◌||◌, Bool, List, [], arith, ap, sym, subst, ◌∙◌, drop}
use Rattle.std.specs.Option.{option_copied}
use Rattle.circular_buffer.specs.Buffer.{Buffer}
use Rattle.pb_pulse.specs.declared.trains.Train.{Train}
use Rattle.pb_pulse.specs.Train.{is_on}
use Rattle.pb_pulse.specs.Queue.{InOrder, is_any_on, left}
use Rattle.pb_pulse.proofs.QueueLemmas.{has_pulses, Leaves, front_leaves, Stays, front_stays, none_left, or_twice, or_false}
use Rattle.pb_pulse.proofs.queues.pass.Goals as goal

pub is_on_at-out-requires : goal.is_on_at-out-requires
is_on_at-out-requires c =
    let found = sym c.front.ensures ∙ ap option_copied c.in-Some.is in
    (has_pulses 0 c.loop-front.trains.items 0 c.in-Some.field-0.now c.loop-front.invariant.ordered found).one

pub end-requires : goal.end-requires
end-requires c =
    let found = sym c.front.ensures ∙ ap option_copied c.in-Some.is in
    (has_pulses 0 c.loop-front.trains.items 0 c.in-Some.field-0.now c.loop-front.invariant.ordered found).one

pub returns-then-end-from-clause-out : goal.returns-then-end-from-clause-out
returns-then-end-from-clause-out c =
    let front = c.in-Some.field-0.now in
    let queue = c.loop-front.trains.items in
    let found = sym c.front.ensures ∙ ap option_copied c.in-Some.is in
    let stays : Stays c.args.tick front queue =
    front_stays c.args.tick front queue c.loop-front.invariant.ordered found (omega (arith, c.end.ensures.value, c.from.ensures, c.if-end-from.true)) in
    sym (c.loop-front.invariant.out ∙ ap (λ (b : Bool). c.loop-front.out || b) (stays.on ∙ sym c.is_on_at-out.ensures))

pub returns-then-end-from-clause-left : goal.returns-then-end-from-clause-left
returns-then-end-from-clause-left c =
    let front = c.in-Some.field-0.now in
    let queue = c.loop-front.trains.items in
    let found = sym c.front.ensures ∙ ap option_copied c.in-Some.is in
    let stays : Stays c.args.tick front queue =
    front_stays c.args.tick front queue c.loop-front.invariant.ordered found (omega (arith, c.end.ensures.value, c.from.ensures, c.if-end-from.true)) in
    sym (c.loop-front.invariant.rest ∙ stays.rest)

pub loop-front-preserved : goal.loop-front-preserved
loop-front-preserved c =
    let front = c.in-Some.field-0.now in
    let queue = c.loop-front.trains.items in
    let found = sym c.front.ensures ∙ ap option_copied c.in-Some.is in
    let leaves : Leaves c.args.tick front queue =
    front_leaves c.args.tick front queue c.loop-front.invariant.ordered found (omega (arith, c.end.ensures.value, c.from.ensures, c.if-end-from.false)) in
    let items = ap (λ (b : Buffer Train). b.items) c.pop_front.ensures.items in
    let room = ap (λ (b : Buffer Train). b.capacity) c.pop_front.ensures.items in
    record {
      ordered = subst (InOrder 0) (sym items) leaves.ordered;
      out =
          c.loop-front.invariant.out
          ∙ ap (λ (b : Bool). c.loop-front.out || b) leaves.on
          ∙ or_twice c.loop-front.out (is_on c.args.tick front) (is_any_on c.args.tick (drop 1 queue))
          ∙ ap (λ (b : Bool). (c.loop-front.out || b) || is_any_on c.args.tick (drop 1 queue)) (sym c.is_on_at-out.ensures)
          ∙ ap (λ (q : List Train). (c.loop-front.out || c.is_on_at-out.result) || is_any_on c.args.tick q) (sym items);
      rest =
          c.loop-front.invariant.rest
          ∙ leaves.rest
          ∙ ap (left c.args.tick) (sym items);
      room = room ∙ c.loop-front.invariant.room;
    }

pub returns-clause-out : goal.returns-clause-out
returns-clause-out c =
    let empty : c.loop-front.trains.items ≡ [] =
    none_left c.loop-front.trains.items (sym c.front.ensures ∙ ap option_copied c.in_default.is) in
    sym (c.loop-front.invariant.out ∙ ap (λ (q : List Train). c.loop-front.out || is_any_on c.args.tick q) empty ∙ or_false c.loop-front.out)

pub returns-clause-left : goal.returns-clause-left
returns-clause-left c =
    let empty : c.loop-front.trains.items ≡ [] =
    none_left c.loop-front.trains.items (sym c.front.ensures ∙ ap option_copied c.in_default.is) in
    empty ∙ ap (left c.args.tick) (sym empty) ∙ sym c.loop-front.invariant.rest
