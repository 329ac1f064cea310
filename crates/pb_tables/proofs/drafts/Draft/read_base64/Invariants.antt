use Rattle.std.proofs.Common.{◌≡◌, ◌≤◌, ◌+◌, length, take}
use Rattle.pb_tables.specs.Bodies.{letters}
use Rattle.pb_tables.specs.Held.{AreLetters}
use Rattle.pb_tables.proofs.drafts.Draft.read_base64.Given as goal

abbrev pub invariant-loop-b : goal.invariant-loop-b
invariant-loop-b l =
    record {
      seen : AreLetters l.self (letters (take l.b-index l.body)) (take l.n l.chunk);
      few : l.n ≤ 16;
      sized : length l.chunk ≡ 16;
      counted : l.self.count + l.n ≤ l.b-index;
    }
