use Rattle.std.proofs.Common.{take}
use Rattle.std.specs.List.{fold}
use Rattle.pb_changes.specs.Groups.{asked}
use Rattle.pb_changes.specs.Report.{Reported, reopened}
use Rattle.pb_changes.specs.Kept.{Keeps}
use Rattle.pb_changes.proofs.marks.Marks.reopen_all.Given as goal

abbrev pub invariant-loop-group : goal.invariant-loop-group
invariant-loop-group l =
    (reported : Reported) → Keeps l.fn.self reported → Keeps l.self (fold reopened reported (take l.group-index (asked l.fn.group)))
