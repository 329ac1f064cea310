-- The fakes of doors, listeners and spawners as their callers see them, and what one call does to each.
use Rattle.std.specs.Prelude.{◌≡◌, ℕ, List, [], ◌∷◌, Some, Result, Ok, Err, map}
use Rattle.pb_ports.specs.declared.sinks.Failed.{Failed}
use Rattle.pb_ports.specs.Counts.{one_more}
use Rattle.pb_ports.specs.Doors.{IsFresh}
use Rattle.pb_ports.specs.Fakes.{Supply, Store}

-- the two halves of a connection in memory
abbrev pub Way : Type 0
Way = Supply × Store

-- neither half was used
abbrev pub IsFreshWay : Way → Type 0
IsFreshWay way = IsFresh way.0.faults way.1.faults (Some way.1.held)

-- A door in memory: the connections that it still gives, and how many calls have failed.
pub record Doorway : Type 0 where
  pub ways : List Way
  pub faults : ℕ

-- the bytes of the connections that it still gives
abbrev pub bytes_to_come : Doorway → List (List ℕ)
bytes_to_come door = map (λ way. way.0.left) door.ways

-- An accept: the first connection, or a fault where none is left.
abbrev pub Admits : Doorway → Result Way Failed → Doorway → Type 0
Admits old (Ok way) new = (old.ways ≡ way ∷ new.ways) × (new.faults ≡ old.faults)
Admits old (Err e) new = (old.ways ≡ []) × (new ≡ record old { faults = one_more old.faults })

-- A listener in memory: the doors that it still gives, and how many calls have failed.
pub record Hall : Type 0 where
  pub doors : List Doorway
  pub faults : ℕ

-- A call for a port, whichever it is: the first door, or a fault where none is left.
abbrev pub Opens : Hall → Result Doorway Failed → Hall → Type 0
Opens old (Ok door) new = (old.doors ≡ door ∷ new.doors) × (new.faults ≡ old.faults)
Opens old (Err e) new = (old.doors ≡ []) × (new ≡ record old { faults = one_more old.faults })
