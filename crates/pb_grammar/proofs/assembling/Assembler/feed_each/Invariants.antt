use Rattle.std.proofs.Common.{ℕ, List, ◌++◌, take}
use Rattle.pb_grammar.specs.Feeding.{Fed}
use Rattle.pb_grammar.proofs.assembling.Assembler.feed_each.Given as goal

abbrev pub invariant-loop-b : goal.invariant-loop-b
invariant-loop-b l = (seen : List ℕ) → Fed l.fn.self seen → Fed l.self (seen ++ take l.b-index l.text)
