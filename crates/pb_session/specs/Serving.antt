-- Words of private helpers: no public clause cites them.
-- How far a control session has come.
use Rattle.std.specs.Prelude.{◌≡◌, ℕ, List, [], ◌∷◌, ◌++◌, Option, Result, Ok, Err}
use Rattle.pb_ports.specs.declared.Failed.{Failed}
use Rattle.pb_ports.specs.Ports as ports
use Rattle.pb_turn.specs.Seeing.{Known}
use Rattle.pb_grammar.specs.Streams.{Commands}
use Rattle.pb_grammar.specs.Feeding.{Kept, Fed}
use Rattle.pb_core.specs.declared.Entry.{Entry}
use Rattle.pb_core.specs.Answer.{CoreState}
use Rattle.pb_session.specs.Calls.{Adds}
use Rattle.pb_session.specs.Controls.{AreSent, IsSent, AddsFront, told, told_of, opens}

-- A command was answered.
pub record Answers {V : Type 0} (opening : V → CoreState) (id : ℕ) (command : List ℕ) (pass new : Known Entry V) (written : Result (Unit {0}) Failed) (held holds : Option (List ℕ)) : Type 0 where
  pub done : Entry
  pub sent : IsSent id command done.event
  pub adds : Adds opening pass new (done ∷ [])
  pub wrote : ports.Writes held (told done.result) written holds

-- The session has looked at these bytes, and all is written.
pub record Serving {V : Type 0} (opening : V → CoreState) (id : ℕ) (start pass : Known Entry V) (looked : List ℕ) (kept : Kept) (held holds : Option (List ℕ)) : Type 0 where
  pub commands : List (List ℕ)
  pub begun : List ℕ
  pub done : List Entry
  pub are : Commands looked commands begun
  pub fed : Fed kept begun
  pub sent : AreSent id commands done
  pub adds : Adds opening start pass (opens id ∷ done)
  pub wrote : ports.Adds held (told_of done) holds

-- It has looked at these bytes, and a write failed.
pub record Broken {V : Type 0} (opening : V → CoreState) (id : ℕ) (start pass : Known Entry V) (looked : List ℕ) (held holds : Option (List ℕ)) : Type 0 where
  pub commands : List (List ℕ)
  pub begun : List ℕ
  pub done : List Entry
  pub are : Commands looked commands begun
  pub sent : AreSent id commands done
  pub adds : Adds opening start pass (opens id ∷ done)
  pub wrote : AddsFront held (told_of done) holds

-- After a piece that it looked at behind these bytes: at all of it, or at a front after which a write failed.
abbrev pub HasFed : {V : Type 0} → (V → CoreState) → ℕ → Known Entry V → Known Entry V → List ℕ → List ℕ → Kept → Result (Unit {0}) Failed → Option (List ℕ) → Option (List ℕ) → Type 0
HasFed opening id start pass looked piece kept (Ok u) held holds = Serving opening id start pass (looked ++ piece) kept held holds
HasFed opening id start pass looked piece kept (Err e) held holds =
    (front : List ℕ) × (behind : List ℕ) × (piece ≡ front ++ behind) × Broken opening id start pass (looked ++ front) held holds

-- The session has looked at all that it has read, and all is written.
pub record Comes {V : Type 0} (opening : V → CoreState) (id : ℕ) (start pass : Known Entry V) (left rest : Option (List ℕ)) (kept : Kept) (held holds : Option (List ℕ)) : Type 0 where
  pub looked : List ℕ
  pub taken : ports.Takes left looked rest
  pub serving : Serving opening id start pass looked kept held holds
