use Rattle.std.proofs.Common.{◌≡◌, ◌<◌, ◌+◌, ◌-◌, List, Some, None, arith, ap, sym, subst, ◌∙◌}
use Rattle.std.specs.Option.{option_copied}
use Rattle.pb_pulse.specs.declared.trains.Train.{Train}
use Rattle.pb_pulse.specs.Train.{end_of, is_on}
use Rattle.pb_pulse.specs.Holding.{IsStillFor}
use Rattle.pb_pulse.proofs.QueueLemmas.{has_pulses, none_left}
use Rattle.pb_pulse.proofs.StillLemmas.{none_high, none_low, leaves_now, turns_now, holds_on, same_level, other_level}
use Rattle.pb_pulse.proofs.queues.Queue.still.Goals as goal

pub returns-then-out : goal.returns-then-out
returns-then-out c =
    let queue = c.self.inside.trains.items in
    let empty = none_left queue (sym c.front.ensures ∙ ap option_copied c.in_default.is) in
    subst (λ (q : List Train). IsStillFor c.args.tick c.args.out q (Some 0)) c.self.view_is (none_high c.args.tick c.args.out queue empty c.if-out.true)

pub returns-in_default : goal.returns-in_default
returns-in_default c =
    let queue = c.self.inside.trains.items in
    let empty = none_left queue (sym c.front.ensures ∙ ap option_copied c.in_default.is) in
    subst (λ (q : List Train). IsStillFor c.args.tick c.args.out q None) c.self.view_is (none_low c.args.tick c.args.out queue empty c.if-out.false)

pub end-requires : goal.end-requires
end-requires c =
    let found = sym c.front.ensures ∙ ap option_copied c.in-Some.is in
    (has_pulses 0 c.self.inside.trains.items 0 c.in-Some.field-0.now c.self.invariant.1 found).one

pub returns-then-end-from : goal.returns-then-end-from
returns-then-end-from c =
    let queue = c.self.inside.trains.items in
    let front = c.in-Some.field-0.now in
    let found = sym c.front.ensures ∙ ap option_copied c.in-Some.is in
    subst (λ (q : List Train). IsStillFor c.args.tick c.args.out q (Some 0)) c.self.view_is (
    leaves_now c.args.tick c.args.out queue front c.self.invariant.1 found (omega (arith, c.end.ensures.value, c.from.ensures, c.if-end-from.true)))

pub is_on_at-requires : goal.is_on_at-requires
is_on_at-requires c =
    let found = sym c.front.ensures ∙ ap option_copied c.in-Some.is in
    (has_pulses 0 c.self.inside.trains.items 0 c.in-Some.field-0.now c.self.invariant.1 found).one

pub returns-then-is_on_at-out : goal.returns-then-is_on_at-out
returns-then-is_on_at-out c =
    let queue = c.self.inside.trains.items in
    let front = c.in-Some.field-0.now in
    let found = sym c.front.ensures ∙ ap option_copied c.in-Some.is in
    let short : c.args.tick + 1 < end_of front = omega (arith, c.end.ensures.value, c.from.ensures, c.if-end-from.false) in
    let apart = other_level c.is_on_at.result c.args.out c.if-is_on_at-out.true in
    let other : is_on c.args.tick front ≡ c.args.out → ⊥ = λ same. apart (c.is_on_at.ensures ∙ same) in
    subst (λ (q : List Train). IsStillFor c.args.tick c.args.out q (Some 0)) c.self.view_is (turns_now c.args.tick c.args.out queue front c.self.invariant.1 found short other)

pub holds_until-requires-clause-pulses : goal.holds_until-requires-clause-pulses
holds_until-requires-clause-pulses c =
    let found = sym c.front.ensures ∙ ap option_copied c.in-Some.is in
    has_pulses 0 c.self.inside.trains.items 0 c.in-Some.field-0.now c.self.invariant.1 found

pub returns : goal.returns
returns c =
    let queue = c.self.inside.trains.items in
    let front = c.in-Some.field-0.now in
    let found = sym c.front.ensures ∙ ap option_copied c.in-Some.is in
    let level : is_on c.args.tick front ≡ c.args.out = sym c.is_on_at.ensures ∙ same_level c.is_on_at.result c.args.out c.if-is_on_at-out.false in
    rw c.from-2.ensures (
    subst (λ (q : List Train). IsStillFor c.args.tick c.args.out q (Some (c.holds_until.result - c.args.tick))) c.self.view_is (
    holds_on c.args.tick c.args.out queue front c.self.invariant.1 found c.holds_until.result level c.holds_until.ensures))
