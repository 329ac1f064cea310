use Rattle.std.proofs.Common.{◌≡◌, ◌+◌, ◌≤◌, drop}
use Rattle.pb_grammar.specs.Grammar.{names_in}
use Rattle.pb_grammar.proofs.NameCounts.{names_on}
use Rattle.pb_grammar.proofs.targets.names_in.Given as goal

abbrev pub invariant-loop-b : goal.invariant-loop-b
invariant-loop-b l =
    (l.count ≤ l.b-index + 1) × (names_on l.count l.empty (drop l.b-index l.text) ≡ names_in l.text)
