use Rattle.std.proofs.Common.{◌≡◌, All, length, map}
use Rattle.pb_replay.specs.Steps.{step_line, IsStep}
use Rattle.pb_replay.proofs.ReadSoFar.{IsRead}
use Rattle.pb_replay.proofs.parsing.parse.Given as goal

abbrev pub invariant-loop-line : goal.invariant-loop-line
invariant-loop-line l =
    record {
      bytes : l.draft.bytes.now ≡ l.text;
      read : IsRead l.text l.rest l.place l.draft.stimulus (map (step_line l.text) l.draft.steps.items);
      steps : All (IsStep l.text) l.draft.steps.items;
    }

abbrev pub decreases-loop-line : goal.decreases-loop-line
decreases-loop-line l = length l.rest
