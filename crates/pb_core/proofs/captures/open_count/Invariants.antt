use Rattle.std.proofs.Common.{◌≡◌, ◌+◌, ◌<◌, ◌≤◌, length}
use Rattle.std.specs.List.{filter}
use Rattle.pb_acquire.specs.Acquisitions.{AllAcquisitions}
use Rattle.pb_acquire.specs.Kept as acquire
use Rattle.pb_core.specs.Captures.{so_many}
use Rattle.pb_core.specs.Sessions.{is_reading}
use Rattle.pb_core.proofs.SessionLemmas.{ids_from}
use Rattle.pb_core.proofs.captures.open_count.Given as goal

abbrev pub invariant-loop-id : goal.invariant-loop-id
invariant-loop-id l =
    record {
      counted : (all : AllAcquisitions) → acquire.Agrees l.acquisitions all →
          l.count + length (filter (is_reading all) (ids_from l.id)) ≡ so_many (is_reading all);
      from_one : 1 ≤ l.id;
      small : l.count < l.id;
    }
