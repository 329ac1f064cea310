use Rattle.std.proofs.Common.{All, take}
use Rattle.pb_words.specs.Numbers.{IsDigit}
use Rattle.pb_words.proofs.cuts.cut_digits.Given as goal

abbrev pub invariant-loop-i : goal.invariant-loop-i
invariant-loop-i l = All IsDigit (take l.i l.text)
