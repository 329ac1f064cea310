use Rattle.std.proofs.Common.{take}
use Rattle.pb_grammar.specs.Feeding.{Scans}
use Rattle.pb_grammar.proofs.tables.scan_of.Given as goal

abbrev pub invariant-loop-b : goal.invariant-loop-b
invariant-loop-b l = Scans l.scan (take l.b-index l.body)
