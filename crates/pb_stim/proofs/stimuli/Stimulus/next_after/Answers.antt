use Rattle.std.proofs.Common.{ap, ◌∙◌}
use Rattle.pb_stim.specs.Stimulus.{next_tick}
use Rattle.pb_stim.proofs.StimulusLemmas.{next_at, next_none}
use Rattle.pb_stim.proofs.stimuli.Stimulus.next_after.Goals as goal

pub returns-then-coming-rows : goal.returns-then-coming-rows
returns-then-coming-rows c =
    next_at c.as_slice-rows.result.now c.args.tick c.count_until-coming.result _ c.count_until-coming.ensures.past
    c.count_until-coming.ensures.coming c.if-coming-rows.true
    ∙ ap (λ rows. next_tick rows c.args.tick) (c.as_slice-rows.ensures.value ∙ c.self.view_is)

pub returns-else-coming-rows : goal.returns-else-coming-rows
returns-else-coming-rows c =
    next_none c.as_slice-rows.result.now c.args.tick c.count_until-coming.result c.count_until-coming.ensures.past
    c.if-coming-rows.false
    ∙ ap (λ rows. next_tick rows c.args.tick) (c.as_slice-rows.ensures.value ∙ c.self.view_is)
