-- Words of private helpers: no public clause cites them.
-- How far an options line has come.
use Rattle.std.specs.Prelude.{◌≡◌, Bool, true, false, ℕ, List, Option}
use Rattle.pb_ports.specs.Ports.{Takes, IsSpent}
use Rattle.pb_session.specs.declared.endings.DataEnded.{DataEnded}
use Rattle.pb_session.specs.declared.endings.DataEnded.TheVariants as endings
use Rattle.pb_session.specs.Options.{IsUnfinished, HasLine, ReadsNoLine}

-- it is whole, or it is all of the bytes
abbrev pub IsLineSoFar : Bool → List ℕ → List ℕ → Type 0
IsLineSoFar true bytes line = HasLine bytes line
IsLineSoFar false bytes line = (line ≡ bytes) × IsUnfinished bytes

-- why no line was read
abbrev pub HasNoLine : DataEnded → Option (List ℕ) → Option (List ℕ) → Type 0
HasNoLine endings.Closed left rest = ReadsNoLine left rest × IsSpent rest
HasNoLine endings.ReadFault left rest = ReadsNoLine left rest
HasNoLine endings.NoMemory left rest = (bytes : List ℕ) × Takes left bytes rest
HasNoLine ended left rest = ⊥
