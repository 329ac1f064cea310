-- Words of private helpers: no public clause cites them.
-- The table of runs in the source: what is found in it.
use Rattle.std.specs.Prelude.{ℕ, ◌≤◌, ◌==◌, ◌&&◌, Option, nat_le, find}
use Rattle.pb_fields.specs.declared.entries.Run.{Run}
use Rattle.pb_fields.specs.declared.entries.TheConstants.{RUNS}

-- the run that has this field
unfoldable pub run_with : ℕ → ℕ → Option Run
run_with block field =
    find (λ r. r.block == block && nat_le r.field field && nat_le field r.last_field) RUNS

-- the run that has this entry
unfoldable pub run_around : ℕ → Option Run
run_around entry = find (λ r. nat_le r.first entry && nat_le entry r.last) RUNS

-- the run holds the entry, and its numbers are small
pub record IsAround (entry : ℕ) (run : Run) : Type 0 where
  pub from_first : run.first ≤ entry
  pub used : entry ≤ 139
  pub outputs : 1 ≤ run.outputs
  pub few : run.outputs ≤ 7
  pub field : run.field ≤ 20
