use Rattle.std.proofs.Common.{◌≡◌, ℕ, ◌+◌, ◌<◌, ◌≤◌, length}
use Rattle.pb_changes.specs.Kept.{IsShownAs}
use Rattle.pb_changes.proofs.reads.read_values.Given as goal

-- the values so far
abbrev pub invariant-loop-place : goal.invariant-loop-place
invariant-loop-place g l =
    record {
      values : (k : ℕ) → k < l.place → IsShownAs (g.F.Face.told l.fn.face).shows l.values k;
      len : length l.values ≡ 24;
      same : g.F.Face.told l.face ≡ g.F.Face.told l.fn.face;
      work : g.F.Face.spent l.face + g.F.Face.left l.face ≤ g.F.Face.spent l.fn.face + g.F.Face.left l.fn.face;
    }
