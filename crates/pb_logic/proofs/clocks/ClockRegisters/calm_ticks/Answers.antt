use Rattle.std.proofs.Common.{◌≡◌, ◌≤◌, ◌<◌, ◌+◌, ◌-◌, true, false, max, rules, subst, arith}
use Rattle.pb_logic.specs.Clock.{period_of, width_of}
use Rattle.pb_logic.proofs.ClockLemmas.{low_left, rises_at, falls_at, stays_high}
use Rattle.pb_logic.proofs.clocks.ClockRegisters.calm_ticks.Goals as goal

pub returns-then-not-self : goal.returns-then-not-self
returns-then-not-self c inputs tick on =
    let low : c.args.self.out ≡ false = search (rules, c.if-not-self.true) in
    let below : width_of c.args.settings.now ≤ c.args.self.count = subst (λ w. w ≤ c.args.self.count) c.width-width.ensures c.if-self-width.false in
    let left : c.from.result ≡ max (period_of c.args.settings.now - c.args.self.count) 1 =
    omega (arith, c.from.ensures, c.max.ensures, c.saturating_sub.ensures, c.period-period.ensures) in
    rises_at inputs on c.from.result tick (record { settings = c.args.settings.now; registers = c.args.self }) low
    (low_left (period_of c.args.settings.now) (width_of c.args.settings.now) c.args.self.count c.from.result below left)

pub returns-then-width-period : goal.returns-then-width-period
returns-then-width-period c inputs tick on =
    let high : c.args.self.out ≡ true = search (rules, c.if-not-self.false) in
    let within : c.args.self.count < width_of c.args.settings.now = subst (λ w. c.args.self.count < w) c.width-width.ensures c.if-self-width-2.false in
    let full : c.period-period.result ≤ width_of c.args.settings.now = subst (λ w. c.period-period.result ≤ w) c.width-width.ensures c.if-width-period.true in
    stays_high inputs on tick (record { settings = c.args.settings.now; registers = c.args.self }) high within
    (subst (λ p. p ≤ width_of c.args.settings.now) c.period-period.ensures full)

pub returns : goal.returns
returns c inputs tick on =
    let high : c.args.self.out ≡ true = search (rules, c.if-not-self.false) in
    let within : c.args.self.count < c.width-width.result = c.if-self-width-2.false in
    let n : c.args.self.count + c.from-2.result ≡ c.width-width.result = omega (arith, c.from-2.ensures) in
    let low : width_of c.args.settings.now < c.period-period.result = subst (λ w. w < c.period-period.result) c.width-width.ensures c.if-width-period.false in
    falls_at inputs on c.from-2.result tick (record { settings = c.args.settings.now; registers = c.args.self }) high
    (subst (λ w. c.args.self.count + c.from-2.result ≡ w) c.width-width.ensures n)
    (subst (λ p. width_of c.args.settings.now < p) c.period-period.ensures low)
