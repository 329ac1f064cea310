use Rattle.std.proofs.Common.{◌≡◌, ◌≤◌, List}
use Rattle.pb_turn.specs.Seeing.{Known}
use Rattle.pb_core.specs.declared.Entry.{Entry}
use Rattle.pb_session.specs.Calls.{Adds}
use Rattle.pb_session.specs.Streaming.{Going}
use Rattle.pb_session.proofs.taking.take_all.Given as goal

abbrev pub invariant-loop : goal.invariant-loop
invariant-loop g l =
    record {
      goes_on : (goal.iterator-loop g).can_next l.iterator' × (goal.iterator-loop g).is_finite l.iterator';
      turn : l.pass.turn ≡ l.turn;
      going : (start : Known Entry g.row.V.Denot) (before : List Entry) → Adds g.V.Server.opening start l.fn.pass before
          → Going g.V.Server.opening l.id start l.pass before (g.K.Sink.held l.fn.sink) (g.K.Sink.held l.sink);
      count : g.K.Sink.faults l.fn.sink ≤ g.K.Sink.faults l.sink;
    }
