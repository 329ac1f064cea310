use Rattle.std.proofs.Common.{ℕ, List, ◌≡◌, ◌+◌, ◌++◌}
use Rattle.pb_tables.specs.Computed.{words_in}
use Rattle.pb_tables.specs.Held.{Holds}
use Rattle.pb_tables.proofs.drafts.Draft.add_words.Given as goal

abbrev pub invariant-loop-i : goal.invariant-loop-i
invariant-loop-i l =
    (l.self.count ≡ l.initial.self.count + l.i)
    × ((words : List ℕ) → Holds l.initial.self words → Holds l.self (words ++ words_in l.i l.bytes))
