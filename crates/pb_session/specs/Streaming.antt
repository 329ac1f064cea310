-- Words of private helpers: no public clause cites them.
-- How far a data session has come.
use Rattle.std.specs.Prelude.{ℕ, List, ◌++◌, Option, Some, None, Result, Ok, Err}
use Rattle.pb_words.specs.declared.OutOfMemory.{OutOfMemory}
use Rattle.pb_ports.specs.Ports as ports
use Rattle.pb_turn.specs.Seeing.{Known}
use Rattle.pb_core.specs.declared.Answer.{Answer}
use Rattle.pb_core.specs.declared.Answer.TheVariants as answers
use Rattle.pb_core.specs.declared.Entry.{Entry}
use Rattle.pb_core.specs.Answer.{CoreState}
use Rattle.pb_session.specs.declared.endings.DataEnded.{DataEnded}
use Rattle.pb_session.specs.declared.endings.DataEnded.TheVariants as endings
use Rattle.pb_session.specs.Calls.{Adds}
use Rattle.pb_session.specs.Controls.{AddsFront}
use Rattle.pb_session.specs.Data.{AreGoing, EndsBy, handed_of}

-- The session has taken, goes on, and all is written.
pub record Going {V : Type 0} (opening : V → CoreState) (id : ℕ) (start pass : Known Entry V) (before : List Entry) (held holds : Option (List ℕ)) : Type 0 where
  pub takes : List Entry
  pub are : AreGoing id takes
  pub adds : Adds opening start pass (before ++ takes)
  pub wrote : ports.Adds held (handed_of takes) holds

-- it has made its last take, of which this came
pub record Ended {V : Type 0} (opening : V → CoreState) (id : ℕ) (start pass : Known Entry V) (before : List Entry) (result : Result Answer OutOfMemory) (held holds : Option (List ℕ)) : Type 0 where
  pub takes : List Entry
  pub ends : EndsBy id takes result
  pub adds : Adds opening start pass (before ++ takes)
  pub wrote : ports.Adds held (handed_of takes) holds

-- a write failed
pub record Failed {V : Type 0} (opening : V → CoreState) (id : ℕ) (start pass : Known Entry V) (before : List Entry) (held holds : Option (List ℕ)) : Type 0 where
  pub takes : List Entry
  pub are : AreGoing id takes
  pub adds : Adds opening start pass (before ++ takes)
  pub wrote : AddsFront held (handed_of takes) holds

-- how the takes of a session ended
abbrev pub HasTaken : {V : Type 0} → (V → CoreState) → ℕ → Known Entry V → DataEnded → Known Entry V → List Entry → Option (List ℕ) → Option (List ℕ) → Type 0
HasTaken opening id start endings.Finished pass before held holds = Ended opening id start pass before (Ok answers.Finished) held holds
HasTaken opening id start endings.Displaced pass before held holds = Ended opening id start pass before (Ok answers.Closed) held holds
HasTaken opening id start endings.NoMemory pass before held holds = (lack : OutOfMemory) × Ended opening id start pass before (Err lack) held holds
HasTaken opening id start endings.WriteFault pass before held holds = Failed opening id start pass before held holds
HasTaken opening id start ended pass before held holds = ⊥

-- after one take: it goes on, or it ended
abbrev pub HasTakenOnce : {V : Type 0} → (V → CoreState) → ℕ → Known Entry V → Option DataEnded → Known Entry V → List Entry → Option (List ℕ) → Option (List ℕ) → Type 0
HasTakenOnce opening id start None pass before held holds = Going opening id start pass before held holds
HasTakenOnce opening id start (Some ended) pass before held holds = HasTaken opening id start ended pass before held holds
