use Rattle.std.proofs.Common.{◌≡◌, take}
use Rattle.pb_stim.specs.Stimulus.{value_at}
use Rattle.pb_stim.proofs.stimuli.value_in.Given as goal

abbrev pub invariant-loop-i : goal.invariant-loop-i
invariant-loop-i l = value_at (take l.i l.rows) l.target l.tick ≡ value_at l.rows l.target l.tick
