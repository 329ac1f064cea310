use Rattle.std.proofs.Common.{◌+◌, sym, subst}
use Rattle.pb_going.specs.Sims.{outdated}
use Rattle.pb_replay.specs.Tallies.{Turns}
use Rattle.pb_replay.proofs.TurnLemmas.{turned}
use Rattle.pb_replay.proofs.happening.turn.Goals as goal

pub returns-in-Ok : goal.returns-in-Ok
returns-in-Ok g c = λ state h.
    subst (λ b. Turns b state c.args.to c.apply.new.self (c.args.steps.now + outdated c.args.core.now.sim) (c.apply.new.steps + outdated c.apply.new.self.sim)) (sym c.goes_on.ensures)
    (turned state c.args.core.now c.apply.new.self c.args.to c.args.steps.now c.apply.new.steps c.in-Ok.answer c.requires.ahead h
    (c.in-Ok.ensures.ok state h) (c.in-Ok.ensures.core state h) (c.in-Ok.ensures.counts state h))

pub returns : goal.returns
returns g c = λ state h. absurd (c.in-Err.ensures.memory state h)
