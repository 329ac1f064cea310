use Rattle.std.proofs.Common.{◌≡◌, ◌+◌, ◌≤◌, take}
use Rattle.std.specs.List.{flat_map}
use Rattle.pb_replies.specs.Replies.{listed}
use Rattle.pb_changes.specs.Groups.{asked}
use Rattle.pb_changes.specs.Past.{Past, AgreesWithPast}
use Rattle.pb_changes.specs.Report.{Reported, lines}
use Rattle.pb_changes.specs.Kept.{Keeps}
use Rattle.pb_changes.proofs.marks.Marks.text.Given as goal

abbrev pub invariant-loop-group : goal.invariant-loop-group
invariant-loop-group g l =
    record {
      lines : (past : Past) (reported : Reported) → AgreesWithPast (g.F.Face.told l.fn.face) past → Keeps l.self reported → l.text ≡ flat_map listed (flat_map (lines reported past (g.F.Face.told l.fn.face).shows) (take l.group-index (asked l.fn.group)));
      same : g.F.Face.told l.face ≡ g.F.Face.told l.fn.face;
      work : g.F.Face.spent l.face + g.F.Face.left l.face ≤ g.F.Face.spent l.fn.face + g.F.Face.left l.fn.face;
    }
