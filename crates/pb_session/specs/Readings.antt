-- What the reader of a data session gets, in the history of all sessions.
use Rattle.std.specs.Prelude.{◌≡◌, ◌==◌, ℕ, Bool, false, List, ◌∷◌, ◌++◌, length, filter, All, Option, Ok}
use Rattle.pb_ports.specs.Ports as ports
use Rattle.pb_turn.specs.Seeing.{Known, calls_of}
use Rattle.pb_encode.specs.declared.Options.{Options}
use Rattle.pb_acquire.specs.Streams.{IsGivenTo}
use Rattle.pb_core.specs.declared.Event.{Event}
use Rattle.pb_core.specs.declared.Event.TheVariants as events
use Rattle.pb_core.specs.declared.Answer.{Answer}
use Rattle.pb_core.specs.declared.Answer.TheVariants as answers
use Rattle.pb_core.specs.declared.Entry.{Entry}
use Rattle.pb_core.specs.Answer.{CoreState, bytes_of}
use Rattle.pb_core.specs.History.{core_after}
use Rattle.pb_session.specs.declared.endings.DataEnded.{DataEnded}
use Rattle.pb_session.specs.declared.endings.DataEnded.TheVariants as endings
use Rattle.pb_session.specs.Controls.{AddsFront}
use Rattle.pb_session.specs.Data.{opens}

-- Histories.

-- the event is one of the data session of this id
abbrev pub is_of : ℕ → Event → Bool
is_of id (events.OpenData other line) = id == other
is_of id (events.Take other) = id == other
is_of id (events.CloseData other) = id == other
is_of id event = false

-- what happened to this data session, in a history of all sessions
abbrev pub entries_of : ℕ → List Entry → List Entry
entries_of id history = filter (λ e. is_of id e.event) history

-- each is a take of this session
abbrev pub AreTakes : ℕ → List Entry → Type 0
AreTakes id takes = All (λ take. take.event ≡ events.Take id) takes

-- as far as it has seen, whatever happened to this data session are calls of this pass
abbrev pub ServesAlone : {V : Type 0} → ℕ → Known Entry V → Type 0
ServesAlone id pass = entries_of id pass.seen ≡ entries_of id (calls_of pass)

-- The reader that opened with this entry, behind these and before those, was given these bytes: the data encoding of whole
-- acquisitions one after the other, and then a front of the next.
abbrev pub IsGivenIn : CoreState → ℕ → Options → List Entry → Entry → List Entry → List ℕ → Type 0
IsGivenIn first id options before opening behind bytes =
    IsGivenTo options (length (core_after first before).acquisitions.completed) id (core_after first (before ++ opening ∷ behind)).acquisitions bytes

-- Sessions.

-- A session of this options line opened in a history, and from there until it closed its reader was given these bytes.
pub record WasGiven (first : CoreState) (seen : List Entry) (id : ℕ) (line : List ℕ) (options : Options) (bytes : List ℕ) : Type 0 where
  pub before : List Entry
  pub behind : List Entry
  pub later : List Entry
  pub are : seen ≡ before ++ opens id line (answers.Opened options.status) ∷ (behind ++ later)
  pub given : IsGivenIn first id options before (opens id line (answers.Opened options.status)) behind bytes

-- what a session writes: that it is open, where that is wanted, and what its reader is given
abbrev pub written : Options → List ℕ → List ℕ
written options bytes = bytes_of (answers.Opened options.status) ++ bytes

-- a front of it, where a write failed
abbrev pub IsWritten : DataEnded → List ℕ → Option (List ℕ) → Option (List ℕ) → Type 0
IsWritten endings.WriteFault bytes held holds = AddsFront held bytes holds
IsWritten ended bytes held holds = ports.Adds held bytes holds
