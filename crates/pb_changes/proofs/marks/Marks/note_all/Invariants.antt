use Rattle.std.proofs.Common.{◌≡◌, ◌+◌, ◌≤◌, take}
use Rattle.std.specs.List.{fold}
use Rattle.pb_changes.specs.Groups.{asked}
use Rattle.pb_changes.specs.Past.{Past, AgreesWithPast}
use Rattle.pb_changes.specs.Report.{Reported, noted}
use Rattle.pb_changes.specs.Kept.{Keeps}
use Rattle.pb_changes.proofs.marks.Marks.note_all.Given as goal

abbrev pub invariant-loop-group : goal.invariant-loop-group
invariant-loop-group g l =
    record {
      marks : (past : Past) (reported : Reported) → AgreesWithPast (g.F.Face.told l.fn.face) past → Keeps l.fn.self reported → Keeps l.self (fold (noted past (g.F.Face.told l.fn.face).shows) reported (take l.group-index (asked l.fn.group)));
      same : g.F.Face.told l.face ≡ g.F.Face.told l.fn.face;
      work : g.F.Face.spent l.face + g.F.Face.left l.face ≤ g.F.Face.spent l.fn.face + g.F.Face.left l.fn.face;
    }
