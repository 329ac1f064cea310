use Rattle.std.proofs.Common.{◌≡◌, ◌-◌, ◌++◌}
use Rattle.std.specs.List.{range_with_len}
use Rattle.pb_changes.specs.Helpers.{read_lines}
use Rattle.pb_changes.proofs.reads.add_reads.Given as goal

-- the lines that are still to come
abbrev pub invariant-loop-place : goal.invariant-loop-place
invariant-loop-place l =
    l.text ++ read_lines l.before l.values (range_with_len l.place (24 - l.place)) ≡ l.fn.text ++ read_lines l.before l.values (range_with_len 0 24)
