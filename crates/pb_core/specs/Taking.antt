-- Words of private helpers: no public clause cites them.
-- What PCAP hands out while the box advances.
use Rattle.std.specs.Prelude.{◌≡◌, ℕ, List, [], ◌∷◌, ◌++◌, map, Option, Some, None}
use Rattle.pb_buses.specs.declared.Emit.{Emit}
use Rattle.pb_buses.specs.declared.Emit.TheVariants as emits
use Rattle.pb_buses.specs.declared.Condition.{Condition}
use Rattle.pb_buses.specs.declared.Record.{Record}
use Rattle.pb_acquire.specs.Acquisitions.{AllAcquisitions, ended}
use Rattle.pb_acquire.specs.Kept as acquire
use Rattle.pb_still.specs.Eventful.{Moment}
use Rattle.pb_going.specs.Advanced.{handed_out, completion}
use Rattle.pb_core.specs.Tick.{taken}

-- one after the other goes to the acquisition that is armed or running
abbrev pub all_taken : List Emit → AllAcquisitions → AllAcquisitions
all_taken [] all = all
all_taken (emit ∷ rest) all = all_taken rest (taken emit all)

abbrev pub records_of : List Record → List Emit
records_of rows = map (λ (row : Record). emits.Record row) rows

-- that it is over, if it is
abbrev pub ended_by : Option Condition → AllAcquisitions → AllAcquisitions
ended_by None all = all
ended_by (Some condition) all = ended condition all

-- So many ticks handed out these records, which were taken, and then this completion, which is still to be taken.
pub record IsTaken (moment : Moment) (ticks : ℕ) (completed : Option Condition) (all : AllAcquisitions) (acquisitions : acquire.Kept) : Type 0 where
  pub rows : List Record
  pub handed : handed_out ticks moment ≡ records_of rows ++ completion completed
  pub agrees : acquire.Agrees acquisitions (all_taken (records_of rows) all)
