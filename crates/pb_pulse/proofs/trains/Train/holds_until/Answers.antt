use Rattle.std.proofs.Common.{◌+◌, ◌<◌, ◌≤◌, arith}
use Rattle.pb_pulse.specs.Train.{rise_of}
use Rattle.pb_pulse.proofs.HoldingLemmas.{holds_before, holds_dense, another, holds_off, holds_last, holds_on}
use Rattle.pb_pulse.proofs.trains.Train.holds_until.Goals as goal

pub returns-then-tick-self : goal.returns-then-tick-self
returns-then-tick-self c =
    rw c.from.ensures (holds_before c.args.self c.args.tick c.requires.pulses c.if-tick-self.true)

pub returns-then-self : goal.returns-then-self
returns-then-self c =
    rw c.end.ensures.value (holds_dense c.args.self c.args.tick c.requires.pulses c.if-self.true c.if-tick-self.false c.requires.runs)

pub returns-then-fall-from : goal.returns-then-fall-from
returns-then-fall-from c =
    let i = c.begun-pulse.result in
    let past : rise_of c.args.self i + c.args.self.width ≤ c.args.tick =
    omega (arith, c.rise.ensures.value, c.from-2.ensures, c.from-3.ensures, c.if-fall-from.true) in
    let more = another c.args.self i c.args.tick c.begun-pulse.ensures.below past (omega (arith, c.requires.runs)) in
    rw c.rise-then-fall-from.ensures.value (holds_off c.args.self i c.args.tick c.requires.pulses more past (c.begun-pulse.ensures.next more))

pub returns-then-pulse-self : goal.returns-then-pulse-self
returns-then-pulse-self c =
    rw c.end-then-pulse-self.ensures.value (holds_last c.args.self c.begun-pulse.result c.args.tick c.if-pulse-self.true c.begun-pulse.ensures.begun c.requires.runs)

pub returns : goal.returns
returns c =
    let i = c.begun-pulse.result in
    let more : i + 1 < c.args.self.number = omega (arith, c.begun-pulse.ensures.below, c.if-pulse-self.false) in
    let gap : c.args.self.width < c.args.self.step =
    omega (arith, c.if-self.false, c.requires.pulses.apart (omega (arith, more))) in
    let within : c.args.tick < rise_of c.args.self i + c.args.self.width =
    omega (arith, c.rise.ensures.value, c.from-2.ensures, c.from-3.ensures, c.if-fall-from.false) in
    rw (c.rise.ensures.value, c.from-2.ensures) (holds_on c.args.self i c.args.tick more gap c.begun-pulse.ensures.begun within)
