use Rattle.std.proofs.Common.{◌≡◌, ◌+◌, ◌≤◌, vec_len}
use Rattle.pb_serve.proofs.starting.start_sessions.Given as goal

abbrev pub invariant-loop-id : goal.invariant-loop-id
invariant-loop-id g l =
    record {
      few : vec_len l.doors ≤ 8;
      parts : l.seat.pass.parts + vec_len l.fn.doors ≡ l.fn.seat.pass.parts + vec_len l.doors;
      more : vec_len l.fn.doors + 1 ≤ l.fn.seat.pass.parts;
      count : g.W.Spawner.refusals l.spawner ≡ g.W.Spawner.refusals l.fn.spawner;
    }

abbrev pub decreases-loop-id : goal.decreases-loop-id
decreases-loop-id g l = vec_len l.doors
