use Rattle.std.proofs.Common.{◌≡◌, ◌≤◌, ◌++◌, codes}
use Rattle.std.specs.List.{flat_map}
use Rattle.pb_acquire.specs.Acquisitions.{AllAcquisitions}
use Rattle.pb_acquire.specs.Kept as acquire
use Rattle.pb_core.specs.Sessions.{session_ids, is_reading}
use Rattle.pb_core.specs.Who.{session_line}
use Rattle.pb_core.proofs.SessionLemmas.{ids_from}
use Rattle.pb_core.proofs.who.list_data.Given as goal

abbrev pub invariant-loop-id : goal.invariant-loop-id
invariant-loop-id l =
    record {
      lines : (all : AllAcquisitions) → acquire.Agrees l.acquisitions all → l.text ++ flat_map (session_line (codes "D") (is_reading all)) (ids_from l.id)
          ≡ l.fn.text ++ flat_map (session_line (codes "D") (is_reading all)) session_ids;
      from_one : 1 ≤ l.id;
    }
