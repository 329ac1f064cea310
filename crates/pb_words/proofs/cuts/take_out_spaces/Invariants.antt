use Rattle.pb_words.proofs.CutLemmas.{Bare}
use Rattle.pb_words.proofs.cuts.take_out_spaces.Given as goal

abbrev pub invariant-loop-b : goal.invariant-loop-b
invariant-loop-b l = Bare l.text l.fn.out l.out l.n l.b-index
