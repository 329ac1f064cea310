use Rattle.std.proofs.Common.{◌≡◌, subst, ◌∙◌}
use Rattle.panda_sim.specs.Run.{CallsOf}
use Rattle.panda_sim.specs.Made.{OfMade}
use Rattle.panda_sim.specs.Replayed.{HasLines}
use Rattle.panda_sim.proofs.Forms.{makes_script}
use Rattle.panda_sim.proofs.MadeScripts.{made_has_no_fault}
use Rattle.panda_sim.proofs.benching.tell_made.Goals as goal

pub unreachable-requires : goal.unreachable-requires
unreachable-requires g c =
    made_has_no_fault c.args.points c.args.seed c.bytes.result.now c.in-Script.line c.in-Script.cause c.requires.most (c.bytes.ensures ∙ c.in-Ok.ensures) c.in-Script.ensures.replayed.0

pub returns-in-Ok-replay-clause-calls : goal.returns-in-Ok-replay-clause-calls
returns-in-Ok-replay-clause-calls g c =
    makes_script c.tell_kept.result (c.replay.new.steps ≡ c.args.steps.now) (OfMade c.args.points c.args.seed (CallsOf c.args.steps.now c.replay.new.steps)) c.tell_kept.ensures.ends c.tell_kept.ensures.known
    (subst (λ b. HasLines b (CallsOf c.args.steps.now c.replay.new.steps)) (c.bytes.ensures ∙ c.in-Ok.ensures) c.in-Ok-replay.ensures.calls)

pub returns-in-EventLimit-clause-calls : goal.returns-in-EventLimit-clause-calls
returns-in-EventLimit-clause-calls g c =
    subst (λ b. HasLines b (CallsOf c.args.steps.now c.replay.new.steps)) (c.bytes.ensures ∙ c.in-Ok.ensures) c.in-EventLimit.ensures.calls
