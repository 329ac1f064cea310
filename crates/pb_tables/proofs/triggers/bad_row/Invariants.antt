use Rattle.std.proofs.Common.{ℕ, ◌<◌, ◌≤◌, ◌*◌, get_or}
use Rattle.pb_tables.specs.Tables.{trigger_of}
use Rattle.pb_tables.proofs.triggers.bad_row.Given as goal

abbrev pub invariant-loop-i : goal.invariant-loop-i
invariant-loop-i l = (k : ℕ) → k < l.i → trigger_of (get_or l.words (4 * k) 0) ≤ 12
