use Rattle.std.proofs.Common.{◌≡◌, sym, ◌∙◌, subst}
use Rattle.panda_sim.specs.Run.{CallsOf, Makes}
use Rattle.panda_sim.specs.Replayed.{HasLines, Replayed}
use Rattle.panda_sim.proofs.Replaying.{replayed_of, played_makes, wrote}
use Rattle.panda_sim.proofs.running.replay.Goals as goal

pub returns-in-Ok-clause-replayed : goal.returns-in-Ok-clause-replayed
returns-in-Ok-clause-replayed g c =
    subst (λ s. Replayed s c.args.bytes.now (g.K.Sink.held c.args.output.now) (g.K.Sink.held c.play.new.output)) (sym c.status.ensures)
    (replayed_of c.args.bytes.now c.in-Ok.script c.play.result (g.K.Sink.held c.args.output.now) (g.K.Sink.held c.play.new.output) c.in-Ok.ensures.read c.play.ensures.plays)

pub returns-in-Ok-clause-calls : goal.returns-in-Ok-clause-calls
returns-in-Ok-clause-calls g c =
    subst (λ s. Makes s (c.play.new.steps ≡ c.args.steps.now) (HasLines c.args.bytes.now (CallsOf c.args.steps.now c.play.new.steps))) (sym c.status.ensures)
    (played_makes c.args.bytes.now c.in-Ok.script c.play.result c.args.steps.now c.play.new.steps c.in-Ok.ensures.read c.play.ensures.calls)

pub returns-in-Ok-clause-cause : goal.returns-in-Ok-clause-cause
returns-in-Ok-clause-cause g c = λ is. c.play.ensures.cause (wrote c.play.result (sym c.status.ensures ∙ is))
