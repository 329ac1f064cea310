use Rattle.std.proofs.Common.{◌≡◌, ◌≤◌, ◌∷◌, []}
use Rattle.pb_turn.specs.Seeing.{Known}
use Rattle.pb_core.specs.declared.Entry.{Entry}
use Rattle.pb_session.specs.Calls.{Adds}
use Rattle.pb_session.specs.Controls.{opens}
use Rattle.pb_session.specs.Serving.{Comes}
use Rattle.pb_session.proofs.controls.serve.Given as goal

abbrev pub invariant-loop : goal.invariant-loop
invariant-loop g l =
    record {
      goes_on : (goal.iterator-loop g).can_next l.iterator' × (goal.iterator-loop g).is_finite l.iterator';
      turn : l.pass.turn ≡ l.turn;
      comes : (start : Known Entry g.row.V.Denot) → Adds g.V.Server.opening start l.fn.pass (opens l.id ∷ [])
          → Comes g.V.Server.opening l.id start l.pass (g.S.Source.left l.fn.source) (g.S.Source.left l.source) l.assembler (g.K.Sink.held l.fn.sink) (g.K.Sink.held l.sink);
      reads : g.S.Source.faults l.fn.source ≤ g.S.Source.faults l.source;
      writes : g.K.Sink.faults l.fn.sink ≤ g.K.Sink.faults l.sink;
    }
