use Rattle.std.proofs.Common.{take}
use Rattle.pb_grammar.specs.Grammar.{IsText}
use Rattle.pb_stim.proofs.cuts.cut_line.Given as goal

abbrev pub invariant-loop-i : goal.invariant-loop-i
invariant-loop-i l = IsText (take l.i l.text)
