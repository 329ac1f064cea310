use Rattle.pb_stim.proofs.StimulusLaws.{stimulus_or_fault, stimulus_has_none, one_stimulus}
use Rattle.pb_stim.proofs.laws.stimuli_are_read_or_refused.Goals as goal

pub returns-clause-either : goal.returns-clause-either
returns-clause-either c = stimulus_or_fault

pub returns-clause-not_both : goal.returns-clause-not_both
returns-clause-not_both c = stimulus_has_none

pub returns-clause-one_way : goal.returns-clause-one_way
returns-clause-one_way c bytes lines others a b = one_stimulus bytes lines others a.spelled b.spelled
