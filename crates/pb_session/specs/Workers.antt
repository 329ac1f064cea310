-- Workers: what they make of a connection, and of a pacer's moments.
use Rattle.std.specs.Prelude.{◌≡◌, ℕ, List, [], ◌∷◌, length, Option}
use Rattle.pb_ports.specs.Ports.{IsSpent}
use Rattle.pb_ports.specs.Doors.{Comes}
use Rattle.pb_ports.specs.Moments.{IsTick, Tells}
use Rattle.pb_turn.specs.Seeing.{Known}
use Rattle.pb_core.specs.declared.Event.TheVariants as events
use Rattle.pb_core.specs.declared.Entry.{Entry}
use Rattle.pb_core.specs.Answer.{CoreState}
use Rattle.pb_session.specs.declared.endings.Ended.{Ended}
use Rattle.pb_session.specs.declared.endings.DataEnded.{DataEnded}
use Rattle.pb_session.specs.Calls.{Adds}
use Rattle.pb_session.specs.Controls.{HasEnded, session_of}
use Rattle.pb_session.specs.Data.{HasStreamed}

-- The door gave its next connection, and the session served it: of what the connection sent so much is left, and it was sent
-- so much.
pub record ServesControl {V : Type 0} (opening : V → CoreState) (id : ℕ) (pass : Known Entry V) (ended : Ended) (new : Known Entry V) (ways others : Option (List (List ℕ))) (left held : Option (List ℕ)) : Type 0 where
  pub way : Option (List ℕ)
  pub sent : Option (List ℕ)
  pub comes : Comes ways way others
  pub nothing : IsSpent sent
  pub session : HasEnded (session_of id) opening id pass ended new way left sent held

pub record ServesData {V : Type 0} (opening : V → CoreState) (id : ℕ) (pass : Known Entry V) (ended : DataEnded) (new : Known Entry V) (ways others : Option (List (List ℕ))) (left held : Option (List ℕ)) : Type 0 where
  pub way : Option (List ℕ)
  pub sent : Option (List ℕ)
  pub comes : Comes ways way others
  pub nothing : IsSpent sent
  pub session : HasStreamed opening id pass ended new way left sent held

-- Each is an advance to the next moment, where moments are told, and to some tick else, over at most 10,000 eventful ticks.
abbrev pub AreAdvances : Option (List ℕ) → List Entry → Option (List ℕ) → Type 0
AreAdvances moments [] others = others ≡ moments
AreAdvances moments (done ∷ entries) others =
    (moment : ℕ) × (rest : Option (List ℕ)) × IsTick moment × Tells moments moment rest × (done.event ≡ events.Advance moment 10000) × AreAdvances rest entries others

-- These entries were added, if any.
abbrev pub AddsAny : {V : Type 0} → (V → CoreState) → Known Entry V → Known Entry V → List Entry → Type 0
AddsAny opening old new [] = new ≡ old
AddsAny opening old new (done ∷ entries) = Adds opening old new (done ∷ entries)

-- so many advances, to the moments of a pacer
pub record Advances {V : Type 0} (opening : V → CoreState) (turns : ℕ) (pass new : Known Entry V) (moments others : Option (List ℕ)) : Type 0 where
  pub entries : List Entry
  pub count : length entries ≡ turns
  pub adds : AddsAny opening pass new entries
  pub are : AreAdvances moments entries others
