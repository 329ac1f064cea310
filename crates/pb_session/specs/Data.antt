-- Data sessions: an options line, and then pieces.
use Rattle.std.specs.Prelude.{◌≡◌, ⊤, ℕ, ◌⊎◌, List, [], ◌∷◌, ◌++◌, Option, Result, Ok, Err}
use Rattle.std.specs.List.{flat_map}
use Rattle.pb_words.specs.declared.OutOfMemory.{OutOfMemory}
use Rattle.pb_ports.specs.Ports.{Takes, IsSpent}
use Rattle.pb_ports.specs.Ports as ports
use Rattle.pb_turn.specs.Seeing.{Known}
use Rattle.pb_core.specs.declared.Event.TheVariants as events
use Rattle.pb_core.specs.declared.Answer.{Answer}
use Rattle.pb_core.specs.declared.Answer.TheVariants as answers
use Rattle.pb_core.specs.declared.Entry.{Entry}
use Rattle.pb_core.specs.Answer.{CoreState, bytes_of}
use Rattle.pb_session.specs.declared.endings.DataEnded.{DataEnded}
use Rattle.pb_session.specs.declared.endings.DataEnded.TheVariants as endings
use Rattle.pb_session.specs.Calls.{Adds, entry}
use Rattle.pb_session.specs.Options.{ReadsLine, ReadsNoLine}
use Rattle.pb_session.specs.Controls.{AddsFront}

-- Answers.

abbrev pub IsOpened : Answer → Type 0
IsOpened (answers.Opened status) = ⊤
IsOpened told = ⊥

abbrev pub IsRefused : Answer → Type 0
IsRefused (answers.Error refusal) = ⊤
IsRefused told = ⊥

-- a session makes takes only where it is open
abbrev pub IsTold : Answer → List Entry → Type 0
IsTold told takes = IsOpened told ⊎ (IsRefused told × (takes ≡ []))

-- The session takes once more: it was handed a piece, or there is none yet.
abbrev pub GoesOn : Result Answer OutOfMemory → Type 0
GoesOn (Ok (answers.Piece text)) = ⊤
GoesOn (Ok answers.NotYet) = ⊤
GoesOn result = ⊥

-- what is written for what came of a take
abbrev pub handed : Result Answer OutOfMemory → List ℕ
handed (Ok answer) = bytes_of answer
handed (Err lack) = []

-- what is written for these, one after the other
abbrev pub handed_of : List Entry → List ℕ
handed_of takes = flat_map (λ take. handed take.result) takes

-- Takes.

-- Each is a take of this session, after which it goes on.
abbrev pub AreGoing : ℕ → List Entry → Type 0
AreGoing id [] = ⊤
AreGoing id (take ∷ takes) = (take.event ≡ events.Take id) × GoesOn take.result × AreGoing id takes

-- the last of these takes, and no earlier one, ended the session by this
pub record EndsBy (id : ℕ) (takes : List Entry) (result : Result Answer OutOfMemory) : Type 0 where
  pub going : List Entry
  pub are : AreGoing id going
  pub last : takes ≡ going ++ entry (events.Take id) result ∷ []

-- Sessions.

abbrev pub opens : ℕ → List ℕ → Answer → Entry
opens id line told = entry (events.OpenData id line) (Ok told)

abbrev pub leaves : ℕ → Entry
leaves id = entry (events.CloseData id) (Ok answers.Nothing)

-- what a session adds that opened with this line, was told this, and made these takes
abbrev pub stream_of : ℕ → List ℕ → Answer → List Entry → List Entry
stream_of id line told takes = opens id line told ∷ (takes ++ leaves id ∷ [])

-- what is written by such a session
abbrev pub bytes_to : Answer → List Entry → List ℕ
bytes_to told takes = bytes_of told ++ handed_of takes

-- A session that had its options line: it was told this, made these takes, and these are the calls that it added.
pub record Ran {V : Type 0} (calls : Answer → List Entry → List Entry) (opening : V → CoreState) (pass new : Known Entry V) : Type 0 where
  pub told : Answer
  pub takes : List Entry
  pub adds : Adds opening pass new (calls told takes)

-- What such a session did, by its ending.
abbrev pub HasRun : {V : Type 0} → (Answer → List Entry → List Entry) → (V → CoreState) → ℕ → Known Entry V → DataEnded → Known Entry V
    → Option (List ℕ) → Option (List ℕ) → Type 0
-- its last take was answered that it is finished
HasRun calls opening id pass endings.Finished new held holds =
    (ran : Ran calls opening pass new) × IsOpened ran.told × EndsBy id ran.takes (Ok answers.Finished) × ports.Adds held (bytes_to ran.told ran.takes) holds
-- its last take was answered that it isn't open
HasRun calls opening id pass endings.Displaced new held holds =
    (ran : Ran calls opening pass new) × IsOpened ran.told × EndsBy id ran.takes (Ok answers.Closed) × ports.Adds held (bytes_to ran.told ran.takes) holds
-- its opening was refused, and the refusal was written
HasRun calls opening id pass endings.Refused new held holds =
    (ran : Ran calls opening pass new) × IsRefused ran.told × (ran.takes ≡ []) × ports.Adds held (bytes_of ran.told) holds
-- a front was written of what it was told and handed
HasRun calls opening id pass endings.WriteFault new held holds =
    (ran : Ran calls opening pass new) × IsTold ran.told ran.takes × AreGoing id ran.takes × AddsFront held (bytes_to ran.told ran.takes) holds
-- there was no memory for what its last take was to be handed
HasRun calls opening id pass endings.NoMemory new held holds =
    (ran : Ran calls opening pass new) × IsOpened ran.told × ((lack : OutOfMemory) × EndsBy id ran.takes (Err lack)) × ports.Adds held (bytes_to ran.told ran.takes) holds
HasRun calls opening id pass ended new held holds = ⊥

-- what a session did that had no options line: nothing
pub record DoesNothing {V : Type 0} (pass new : Known Entry V) (held holds : Option (List ℕ)) : Type 0 where
  pub same : new ≡ pass
  pub writes_none : holds ≡ held

-- the session read its options line, and ran
abbrev pub HasLineAndRun : {V : Type 0} → (V → CoreState) → ℕ → Known Entry V → DataEnded → Known Entry V
    → Option (List ℕ) → Option (List ℕ) → Option (List ℕ) → Option (List ℕ) → Type 0
HasLineAndRun opening id pass ended new left rest held holds =
    (line : List ℕ) × ReadsLine left rest line × HasRun (stream_of id line) opening id pass ended new held holds

-- What a data session did, by its ending.
abbrev pub HasStreamed : {V : Type 0} → (V → CoreState) → ℕ → Known Entry V → DataEnded → Known Entry V
    → Option (List ℕ) → Option (List ℕ) → Option (List ℕ) → Option (List ℕ) → Type 0
-- the source ended before the line was whole
HasStreamed opening id pass endings.Closed new left rest held holds =
    DoesNothing pass new held holds × ReadsNoLine left rest × IsSpent rest
HasStreamed opening id pass endings.ReadFault new left rest held holds =
    DoesNothing pass new held holds × ReadsNoLine left rest
-- there was no memory for the line, or later
HasStreamed opening id pass endings.NoMemory new left rest held holds =
    (DoesNothing pass new held holds × ((bytes : List ℕ) × Takes left bytes rest))
    ⊎ HasLineAndRun opening id pass endings.NoMemory new left rest held holds
HasStreamed opening id pass ended new left rest held holds = HasLineAndRun opening id pass ended new left rest held holds
