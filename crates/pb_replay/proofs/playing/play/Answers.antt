use Rattle.std.proofs.Common.{map, ◌∙◌}
use Rattle.pb_core.specs.Answer.{opening}
use Rattle.pb_replay.specs.Steps.{step_line}
use Rattle.pb_replay.proofs.FirstTick.{first_eventful}
use Rattle.pb_replay.proofs.ScriptPlays.{script_plays, none_played, script_calls, none_spent, as_many}
use Rattle.pb_replay.proofs.playing.play.Goals as goal

pub returns-in-Err-clause-plays : goal.returns-in-Err-clause-plays
returns-in-Err-clause-plays g c = none_played _ _ (g.K.Sink.held c.args.output.now)

pub returns-in-Err-clause-calls : goal.returns-in-Err-clause-calls
returns-in-Err-clause-calls g c = none_spent _ _ _ _

pub returns-in-Ok-new-clause-plays : goal.returns-in-Ok-new-clause-plays
returns-in-Ok-new-clause-plays g c =
    script_plays c.args.script.now c.in-Ok.stimulus (map (step_line c.steps.result.0.now) c.steps.result.1.now) c.play_steps.result (g.K.Sink.held c.args.output.now) (g.K.Sink.held c.play_steps.new.output)
    (c.in-Ok.ensures ∙ c.stimulus.ensures) c.steps.ensures.lines (c.play_steps.ensures.plays (opening c.in-Ok.stimulus) c.in-Ok-new.ensures.core (first_eventful c.in-Ok.stimulus))

pub returns-in-Ok-new-clause-calls : goal.returns-in-Ok-new-clause-calls
returns-in-Ok-new-clause-calls g c =
    script_calls c.args.script.now c.in-Ok.stimulus (map (step_line c.steps.result.0.now) c.steps.result.1.now) _ c.args.steps.now _ c.play_steps.new.steps
    (c.in-Ok.ensures ∙ c.stimulus.ensures) c.steps.ensures.lines (as_many (step_line c.steps.result.0.now) c.steps.result.1.now) c.in-Ok-new.ensures.known
    (c.play_steps.ensures.calls (opening c.in-Ok.stimulus) c.in-Ok-new.ensures.core (first_eventful c.in-Ok.stimulus))

pub returns-in-Err-new-clause-plays : goal.returns-in-Err-new-clause-plays
returns-in-Err-new-clause-plays g c = none_played _ _ (g.K.Sink.held c.args.output.now)

pub returns-in-Err-new-clause-calls : goal.returns-in-Err-new-clause-calls
returns-in-Err-new-clause-calls g c = none_spent _ _ _ _
