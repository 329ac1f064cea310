use Rattle.std.proofs.Common.{◌≡◌, ◌≤◌}
use Rattle.pb_turn.specs.Entering.{seeing}
use Rattle.pb_turn.proofs.turns.Turn.enter.Given as goal

abbrev pub invariant-loop : goal.invariant-loop
invariant-loop g l =
    (goal.iterator-loop g).can_next l.iterator' × (goal.iterator-loop g).is_finite l.iterator' × (l.waiting ≡ seeing l.fn.pass l.fn.pass.seen l.waiting.lost) × (l.fn.pass.lost ≤ l.waiting.lost)
