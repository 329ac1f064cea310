use Rattle.std.proofs.Common.{◌≡◌, [], replicate}
use Rattle.pb_replies.proofs.ListedLemmas.{after}
use Rattle.pb_replies.proofs.lines.list_unused.Given as goal

abbrev pub invariant-loop : goal.invariant-loop
invariant-loop l = l.text ≡ after l.fn.text (replicate l.count []) l.counter
