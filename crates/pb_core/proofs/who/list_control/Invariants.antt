use Rattle.std.proofs.Common.{◌≡◌, ◌≤◌, ◌++◌, codes}
use Rattle.std.specs.List.{flat_map}
use Rattle.pb_core.specs.Sessions.{session_ids, is_open}
use Rattle.pb_core.specs.Who.{session_line}
use Rattle.pb_core.proofs.SessionLemmas.{ids_from}
use Rattle.pb_core.proofs.who.list_control.Given as goal

abbrev pub invariant-loop-id : goal.invariant-loop-id
invariant-loop-id l =
    record {
      lines : l.text ++ flat_map (session_line (codes "C") (is_open l.sessions)) (ids_from l.id)
          ≡ l.fn.text ++ flat_map (session_line (codes "C") (is_open l.sessions)) session_ids;
      from_one : 1 ≤ l.id;
    }
