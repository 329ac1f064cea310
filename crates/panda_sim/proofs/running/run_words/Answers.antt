use Rattle.std.proofs.Common.{◌≡◌, refl, subst}
use Rattle.panda_sim.specs.Run.{CallsOf, Makes}
use Rattle.panda_sim.specs.Replayed.{HasLines, Replayed}
use Rattle.panda_sim.proofs.TakenLemmas.{bounded_at_first}
use Rattle.panda_sim.proofs.Replaying.{leaves_of, makes_of}
use Rattle.panda_sim.proofs.running.run_words.Goals as goal

pub returns-then-not-is_replay-clause-bounded : goal.returns-then-not-is_replay-clause-bounded
returns-then-not-is_replay-clause-bounded g c = bounded_at_first _ _ refl

pub returns-in-Ok-clause-leaves : goal.returns-in-Ok-clause-leaves
returns-in-Ok-clause-leaves g c =
    leaves_of c.in-Ok.text _ _ c.in-Ok.ensures.taken c.in-Ok.ensures.enough c.replay.result (g.K.Sink.held c.args.output.now) (g.K.Sink.held c.replay.new.output)
    (subst (λ b. Replayed c.replay.result b (g.K.Sink.held c.args.output.now) (g.K.Sink.held c.replay.new.output)) c.bytes.ensures c.replay.ensures.replayed)

pub returns-in-Ok-clause-calls : goal.returns-in-Ok-clause-calls
returns-in-Ok-clause-calls g c =
    makes_of c.in-Ok.text _ _ c.in-Ok.ensures.taken c.in-Ok.ensures.enough c.replay.result (c.replay.new.steps ≡ c.args.steps.now) (CallsOf c.args.steps.now c.replay.new.steps)
    (subst (λ b. Makes c.replay.result (c.replay.new.steps ≡ c.args.steps.now) (HasLines b (CallsOf c.args.steps.now c.replay.new.steps))) c.bytes.ensures c.replay.ensures.calls)
