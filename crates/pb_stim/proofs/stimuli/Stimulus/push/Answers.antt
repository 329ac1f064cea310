use Rattle.std.specs.Int.{w32}
use Rattle.std.proofs.lemmas.Int.{to_z-of_z}
use Rattle.pb_stim.proofs.StimulusLemmas.{AreRows-push}
use Rattle.pb_stim.proofs.stimuli.Stimulus.push.Goals as goal

pub invariant_of-self-2 : goal.invariant_of-self-2
invariant_of-self-2 c =
    rw (c.in_ok-push.ensures.items, to_z-of_z w32 c.args.value c.ranges.value)
    (AreRows-push _ _ c.self.invariant c.requires.row (rw c.self.view_is c.requires.order))
