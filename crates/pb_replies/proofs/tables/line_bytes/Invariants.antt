use Rattle.std.proofs.Common.{◌≡◌, ◌≤◌, take, drop}
use Rattle.pb_tables.specs.Bodies.{bytes_of}
use Rattle.pb_replies.proofs.tables.line_bytes.Given as goal

-- the bytes so far are in front
abbrev pub invariant-loop-j : goal.invariant-loop-j
invariant-loop-j l = (l.j ≤ l.count) × (take l.j l.out ≡ take l.j (drop l.start (bytes_of l.rows)))
