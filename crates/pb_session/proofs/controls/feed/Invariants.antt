use Rattle.std.proofs.Common.{◌≡◌, ◌≤◌, ◌++◌, ℕ, List, Option, take}
use Rattle.pb_turn.specs.Seeing.{Known}
use Rattle.pb_core.specs.declared.Entry.{Entry}
use Rattle.pb_session.specs.Serving.{Serving}
use Rattle.pb_session.proofs.controls.feed.Given as goal

abbrev pub invariant-loop-byte : goal.invariant-loop-byte
invariant-loop-byte g l =
    record {
      turn : l.pass.turn ≡ l.turn;
      serving : (start : Known Entry _) (looked : List ℕ) (held : Option (List ℕ)) → Serving g.V.Server.opening l.id start l.fn.pass looked l.fn.assembler held (g.K.Sink.held l.fn.sink)
          → Serving g.V.Server.opening l.id start l.pass (looked ++ take l.byte-index l.piece) l.assembler held (g.K.Sink.held l.sink);
      count : g.K.Sink.faults l.fn.sink ≤ g.K.Sink.faults l.sink;
    }
