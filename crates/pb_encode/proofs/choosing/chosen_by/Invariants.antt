use Rattle.std.proofs.Common.{◌≡◌, length}
use Rattle.pb_encode.specs.Choosing.{after_words, at_start, words}
use Rattle.pb_encode.proofs.choosing.chosen_by.Given as goal

abbrev pub invariant-loop-rest : goal.invariant-loop-rest
invariant-loop-rest l = after_words l.chosen (words l.rest) ≡ after_words at_start (words l.line)

abbrev pub decreases-loop-rest : goal.decreases-loop-rest
decreases-loop-rest l = length l.rest
