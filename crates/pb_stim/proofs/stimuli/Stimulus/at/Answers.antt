use Rattle.std.proofs.Common.{ap, ◌∙◌, rules}
use Rattle.std.specs.Int.{w32}
use mir.Val.{SFits}
use Rattle.std.proofs.lemmas.Int.{to_z-of_z}
use Rattle.pb_stim.specs.Stimulus.{value_at}
use Rattle.pb_stim.proofs.StimulusLemmas.{value_at-past}
use Rattle.pb_stim.proofs.stimuli.Stimulus.at.Goals as goal

pub returns : goal.returns
returns c =
    let rows = c.as_slice-rows.result.now in
    let fits : SFits w32 c.value_in.result = search rules in
    to_z-of_z w32 c.value_in.result fits
    ∙ c.value_in.ensures
    ∙ value_at-past rows c.count_until-past.result c.args.target c.args.tick c.count_until-past.ensures.coming
    ∙ ap (λ xs. value_at xs c.args.target c.args.tick) (c.as_slice-rows.ensures.value ∙ c.self.view_is)
