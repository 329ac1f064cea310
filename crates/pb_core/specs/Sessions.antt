-- Control sessions 1 to 8, with what was last reported to each. Data sessions 1 to 8 are the readers of acquisitions.
use Rattle.std.specs.Prelude.{ℕ, ◌-◌, ◌≤◌, Bool, false, List, map, replicate, slice_index_or, slice_set, Option, None, is_some, Result, Ok, Err, if◌then◌else◌}
use Rattle.std.specs.Option.{unwrap_or}
use Rattle.std.specs.List.{range_with_len}
use Rattle.pb_words.specs.declared.Refusal.{Refusal}
use Rattle.pb_encode.specs.declared.Options.{Options}
use Rattle.pb_acquire.specs.declared.readers.Piece.{Piece}
use Rattle.pb_acquire.specs.declared.readers.Piece.TheVariants as pieces
use Rattle.pb_acquire.specs.Acquisitions.{AllAcquisitions}
use Rattle.pb_acquire.specs.Taking.{reader_of, opened, take_of, piece_of}
use Rattle.pb_changes.specs.Report.{Reported, opening}
use Rattle.pb_core.specs.declared.events.Answer.{Answer}
use Rattle.pb_core.specs.declared.events.Answer.TheVariants as answers

-- the id of a session
pub record IsSession (id : ℕ) : Type 0 where
  pub from_one : 1 ≤ id
  pub in_count : id ≤ 8

-- all ids, rising
abbrev pub session_ids : List ℕ
session_ids = range_with_len 1 8

-- Control sessions: for each id what was last reported to it, if it is open.

abbrev pub none_open : {X : Type 0} → List (Option X)
none_open = replicate 8 None

-- for each id whether the session is open
abbrev pub open_of : {X : Type 0} → List (Option X) → List Bool
open_of sessions = map is_some sessions

abbrev pub is_listed : List Bool → ℕ → Bool
is_listed is_open_at id = slice_index_or is_open_at (id - 1) false

abbrev pub is_open : {X : Type 0} → List (Option X) → ℕ → Bool
is_open sessions id = is_listed (open_of sessions) id

-- the sessions where the one of this id is open, with this, or isn't
abbrev pub with_session : {X : Type 0} → ℕ → Option X → List (Option X) → List (Option X)
with_session id session sessions = slice_set sessions (id - 1) session

-- what was last reported to a session: nothing where it has just opened
abbrev pub reported_to : List (Option Reported) → ℕ → Reported
reported_to sessions id = unwrap_or (slice_index_or sessions (id - 1) None) opening

-- what is answered to a session: only one that is open is told what its command or its asking gives
abbrev pub told_if_open : Bool → Answer → Answer
told_if_open is_there told = if is_there then told else answers.Closed

-- Data sessions.

abbrev pub is_reading : AllAcquisitions → ℕ → Bool
is_reading all id = is_some (reader_of all id)

-- What an options line is answered: that the session is open, and whether it wants to be told so; or a refusal.
abbrev pub opened_answer : Result Options Refusal → Answer
opened_answer (Ok options) = answers.Opened options.status
opened_answer (Err refusal) = answers.Error refusal

-- A reader with these options takes the place of what there was; where they are refused nothing changes.
abbrev pub opened_by : ℕ → Result Options Refusal → AllAcquisitions → AllAcquisitions
opened_by id (Ok options) all = opened id options all
opened_by id (Err refusal) all = all

-- what a piece is answered as
abbrev pub piece_answer : Piece → Answer
piece_answer pieces.Done = answers.Finished
piece_answer pieces.NotYet = answers.NotYet
piece_answer (pieces.Bytes text) = answers.Piece text

-- what a reader that takes is answered
abbrev pub taken_answer : AllAcquisitions → ℕ → Answer
taken_answer all id = told_if_open (is_reading all id) (piece_answer (piece_of (take_of all id)))
