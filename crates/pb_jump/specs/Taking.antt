-- Words of private helpers: no public clause cites them.
-- What becomes of the records of an acquisition.
use Rattle.std.specs.Prelude.{◌≡◌, ℕ, ◌+◌, ◌++◌, List, length, map, Option, Some}
use Rattle.pb_buses.specs.declared.Emit.{Emit}
use Rattle.pb_buses.specs.declared.Emit.TheVariants as emits
use Rattle.pb_buses.specs.declared.Condition.{Condition}
use Rattle.pb_buses.specs.declared.Record.{Record}
use Rattle.pb_pcap.specs.Records.{Held, record_bytes, records_bytes}
use Rattle.pb_still.specs.Eventful.{Moment}
use Rattle.pb_going.specs.Sims.{Going}
use Rattle.pb_going.specs.Advanced.{completion}
use Rattle.pb_going.specs.Coming.{Comes}

-- nothing but room in memory
pub record IsSame (old new : Held) : Type 0 where
  pub layout : new.layout ≡ old.layout
  pub bytes : new.bytes ≡ old.bytes
  pub count : new.count ≡ old.count

-- a record more
pub record HasMore (row : Record) (old new : Held) : Type 0 where
  pub layout : new.layout ≡ old.layout
  pub bytes : new.bytes ≡ old.bytes ++ record_bytes old.layout row
  pub count : new.count ≡ old.count + 1

-- what a tick emits is a record more, or the completion, or nothing
abbrev pub IsTaken : Emit → Option Condition → Option Condition → Held → Held → Type 0
IsTaken emits.Nothing completed result old new = (result ≡ completed) × IsSame old new
IsTaken (emits.Record row) completed result old new = (result ≡ completed) × HasMore row old new
IsTaken (emits.Completed condition) completed result old new = (result ≡ Some condition) × IsSame old new

-- It has come so far, and these records were pushed.
pub record Captures (start : Moment) (g : Going) (eventful : ℕ) (completed : Option Condition) (old new : Held) (was spent : ℕ) : Type 0 where
  pub rows : List Record
  pub comes : Comes start g eventful (map (λ (row : Record). emits.Record row) rows ++ completion completed) was spent
  pub layout : new.layout ≡ old.layout
  pub bytes : new.bytes ≡ old.bytes ++ records_bytes old.layout rows
  pub count : new.count ≡ old.count + length rows
