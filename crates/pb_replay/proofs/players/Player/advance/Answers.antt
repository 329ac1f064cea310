use Rattle.std.proofs.Common.{◌+◌, [], ◌∷◌, false, true, refl, sym, subst, inr, arith}
use Rattle.pb_going.specs.Sims.{outdated}
use Rattle.pb_core.specs.Answer.{advanced}
use Rattle.pb_replay.specs.Events.{going_to}
use Rattle.pb_replay.specs.Tallies.{tally, Turns, WentTo}
use Rattle.pb_replay.proofs.TurnLemmas.{way_first, way_more, way_leads, way_all, way_some, way_limit}
use Rattle.pb_replay.proofs.players.Player.advance.Goals as goal

pub loop-number-init : goal.loop-number-init
loop-number-init g c =
    record {
      way = λ state h. way_first state c.args.to c.args.self.now.core _ h;
      number = refl;
      few = λ few. few;
      assemblers = refl;
      pending = refl;
    }

pub loop-number-preserved : goal.loop-number-preserved
loop-number-preserved g c =
    let inv = c.loop-number.invariant in
    record {
      way = λ state h.
          way_more state c.args.to c.loop-number.self.core c.turn.new.core _ (tally c.loop-number.self.core c.loop-number.self.eventful c.loop-number.steps) _
          (omega (arith, c.now.ensures.now, c.if-to-now.false)) (inv.way state h)
          (subst (λ b. Turns b (advanced state (inv.way state h).tick) c.args.to c.turn.new.core (c.loop-number.steps + outdated c.loop-number.self.core.sim) (c.turn.new.steps + outdated c.turn.new.core.sim)) c.if-not-turn.false
          (c.turn.ensures (advanced state (inv.way state h).tick) (inv.way state h).agrees)) refl;
      number = omega (arith, inv.number);
      few = λ few. omega (arith, inv.number, c.loop-number-test.true);
      assemblers = inv.assemblers;
      pending = inv.pending;
    }

pub returns-then-to-now-clause-core : goal.returns-then-to-now-clause-core
returns-then-to-now-clause-core g c = λ there state h.
    way_leads state c.args.to c.loop-number.self.core _ _ (omega (arith, c.now.ensures.now, c.if-to-now.true)) (c.loop-number.invariant.way state h)

pub returns-then-to-now-clause-went : goal.returns-then-to-now-clause-went
returns-then-to-now-clause-went g c = λ state h ready.
    let inv = c.loop-number.invariant in
    way_all state c.args.to c.loop-number.self.core _ _ (omega (arith, c.now.ensures.now, c.if-to-now.true)) ready.now (inv.few ready.few) (inv.way state h)

pub returns-then-not-turn-clause-went : goal.returns-then-not-turn-clause-went
returns-then-not-turn-clause-went g c = λ state h ready.
    let inv = c.loop-number.invariant in
    inr (
      way_some state c.args.to c.loop-number.self.core c.turn.new.core _ (tally c.loop-number.self.core c.loop-number.self.eventful c.loop-number.steps) _
          (omega (arith, c.now.ensures.now, c.if-to-now.false)) ready.now (inv.few ready.few) (inv.way state h)
          (subst (λ b. Turns b (advanced state (inv.way state h).tick) c.args.to c.turn.new.core (c.loop-number.steps + outdated c.loop-number.self.core.sim) (c.turn.new.steps + outdated c.turn.new.core.sim)) c.if-not-turn.true
          (c.turn.ensures (advanced state (inv.way state h).tick) (inv.way state h).agrees)) refl,
      tt,
    )

pub returns-then-to-tick-clause-core : goal.returns-then-to-tick-clause-core
returns-then-to-tick-clause-core g c = λ there state h.
    way_leads state c.args.to c.loop-number.self.core _ _ (omega (arith, c.now-tick.ensures.now, c.if-to-tick.true)) (c.loop-number.invariant.way state h)

pub returns-then-to-tick-clause-went : goal.returns-then-to-tick-clause-went
returns-then-to-tick-clause-went g c = λ state h ready.
    let inv = c.loop-number.invariant in
    way_all state c.args.to c.loop-number.self.core _ _ (omega (arith, c.now-tick.ensures.now, c.if-to-tick.true)) ready.now (inv.few ready.few) (inv.way state h)

pub returns-else-to-tick-clause-went : goal.returns-else-to-tick-clause-went
returns-else-to-tick-clause-went g c = λ state h ready.
    let inv = c.loop-number.invariant in (
      subst (λ t. WentTo t 0 state (going_to c.args.to ∷ []) (tally c.args.self.now.core c.args.self.now.eventful c.args.steps.now) (tally c.loop-number.self.core c.loop-number.self.eventful c.loop-number.steps)) (sym c.now-tick.ensures.now)
          (way_limit state c.args.to c.loop-number.self.core _ _ (omega (arith, c.now-tick.ensures.now, c.if-to-tick.false)) ready.now
          (omega (arith, inv.number, c.loop-number-test.false, inv.few ready.few)) (inv.way state h)),
      tt,
    )
