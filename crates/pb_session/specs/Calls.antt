-- What a session adds to its pass's own calls.
use Rattle.std.specs.Prelude.{◌≡◌, ℕ, List, ◌++◌, Some, Result}
use mathlib.Core.List.{IsPrefix}
use Rattle.pb_words.specs.declared.OutOfMemory.{OutOfMemory}
use Rattle.pb_turn.specs.Seeing.{Known, calls_of}
use Rattle.pb_core.specs.declared.Event.{Event}
use Rattle.pb_core.specs.declared.Answer.{Answer}
use Rattle.pb_core.specs.declared.Entry.{Entry}
use Rattle.pb_core.specs.Answer.{CoreState}
use Rattle.pb_core.specs.History.{IsLegal}

-- an event and what came of it
abbrev pub entry : Event → Result Answer OutOfMemory → Entry
entry event result = record { event = event; result = result }

-- The pass with another history and other calls. Which turn it is a pass of, its parts, and what the turn was made of stay.
abbrev pub knowing : {V : Type 0} → Known Entry V → List Entry → List ℕ → ℕ → Known Entry V
knowing pass seen made lost =
    record { turn = pass.turn; seen = seen; made = made; parts = pass.parts; all = pass.all; lost = lost; opened = pass.opened }

-- It is a pass of the same turn with the same parts, whatever it has seen and added.
abbrev pub Keeps : {V : Type 0} → Known Entry V → Known Entry V → Type 0
Keeps old new = new ≡ knowing old new.seen new.made new.lost

-- The pass has added these entries to its own calls. They stand in one history, which begins with all that the pass had
-- seen, and which is legal from the core on in which the turn began.
pub record Adds {V : Type 0} (opening : V → CoreState) (old new : Known Entry V) (entries : List Entry) : Type 0 where
  pub same : Keeps old new
  pub begins : IsPrefix old.seen new.seen
  pub calls : calls_of new ≡ calls_of old ++ entries
  pub legal : (value : V) → old.opened ≡ Some value → IsLegal (opening value) new.seen
