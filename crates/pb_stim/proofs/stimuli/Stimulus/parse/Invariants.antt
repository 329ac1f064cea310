use Rattle.std.proofs.Common.{length}
use Rattle.pb_stim.proofs.ReadSoFar.{IsRead}
use Rattle.pb_stim.proofs.stimuli.Stimulus.parse.Given as goal

abbrev pub invariant-loop-line : goal.invariant-loop-line
invariant-loop-line l = IsRead l.text l.rest l.place l.stimulus

abbrev pub decreases-loop-line : goal.decreases-loop-line
decreases-loop-line l = length l.rest
