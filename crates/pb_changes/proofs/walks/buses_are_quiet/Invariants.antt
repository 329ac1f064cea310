use Rattle.std.proofs.Common.{ℕ, ◌<◌, ◌≤◌}
use Rattle.pb_changes.proofs.walks.buses_are_quiet.Given as goal

abbrev pub invariant-loop-entry : goal.invariant-loop-entry
invariant-loop-entry g l = (k : ℕ) → k < l.entry → (g.F.Face.told l.face).changed_at k ≤ l.tick
