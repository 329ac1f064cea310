-- What is answered to sessions that aren't open.
use Rattle.std.proofs.Common.{◌≡◌, ◌↔◌, ℕ, Bool, true, false, List, Option, Some, None, is_some, Result, Ok, Err, refl}
use Rattle.pb_words.specs.declared.Refusal.{Refusal}
use Rattle.pb_grammar.specs.Grammar.{Said, Query, Assign, Table, Echo, Bad, command_of}
use Rattle.pb_acquire.specs.declared.readers.Piece.{Piece}
use Rattle.pb_acquire.specs.declared.readers.Piece.TheVariants as pieces
use Rattle.pb_acquire.specs.declared.readers.Reader.{Reader}
use Rattle.pb_acquire.specs.declared.readers.Taken.{Taken}
use Rattle.pb_acquire.specs.declared.readers.Taken.TheVariants as takes
use Rattle.pb_acquire.specs.Acquisitions.{AllAcquisitions}
use Rattle.pb_acquire.specs.Taking.{reader_of, taken_by, take_of, piece_of}
use Rattle.pb_core.specs.declared.events.Answer.{Answer}
use Rattle.pb_core.specs.declared.events.Answer.TheVariants as answers
use Rattle.pb_core.specs.declared.events.Event.TheVariants as events
use Rattle.pb_core.specs.Sessions.{open_of, is_open, told_if_open, piece_answer}
use Rattle.pb_core.specs.Telling.{reports_to}
use Rattle.pb_core.specs.Queries.{query_reply}
use Rattle.pb_core.specs.Assignments.{assignment}
use Rattle.pb_core.specs.Writing.{table_write}
use Rattle.pb_core.specs.Answer.{CoreState, replied, done, line_answer, answer}

not_replied : (r : Result (List ℕ) Refusal) → replied r ≡ answers.Closed → ⊥
not_replied (Ok reply) e = cc
not_replied (Err refusal) e = cc

not_done : {X : Type 0} (r : Result X Refusal) → done r ≡ answers.Closed → ⊥
not_done (Ok new) e = cc
not_done (Err refusal) e = cc

-- no command is answered so
pub not_said : (core : CoreState) (id : ℕ) (said : Said) → line_answer core id said ≡ answers.Closed → ⊥
not_said core id (Query target) e =
    not_replied (query_reply core.settings core.box.stands (open_of core.sessions) core.acquisitions (reports_to core id) target) e
not_said core id (Assign target value) e = not_done (assignment core.settings core.acquisitions target value) e
not_said core id (Table target append base64 body) e = not_done (table_write core.box.stands target append base64 body) e
not_said core id (Echo text) e = cc
not_said core id (Bad refusal) e = cc

closed_by : (is_there : Bool) (told : Answer) → (told ≡ answers.Closed → ⊥) → (told_if_open is_there told ≡ answers.Closed) ↔ (is_there ≡ false)
closed_by true told other = (λ e. absurd (other e), λ e. cc)
closed_by false told other = (λ e. refl, λ e. refl)

pub line_closed : (core : CoreState) (id : ℕ) (bytes : List ℕ) → (answer core (events.Line id bytes) ≡ answers.Closed) ↔ (is_open core.sessions id ≡ false)
line_closed core id bytes = closed_by (is_open core.sessions id) (line_answer core id (command_of bytes)) (not_said core id (command_of bytes))

pub bad_closed : (core : CoreState) (id : ℕ) (refusal : Refusal) → (answer core (events.Bad id refusal) ≡ answers.Closed) ↔ (is_open core.sessions id ≡ false)
bad_closed core id refusal = closed_by (is_open core.sessions id) (answers.Error refusal) (λ e. cc)

-- no piece is

not_piece : (piece : Piece) → piece_answer piece ≡ answers.Closed → ⊥
not_piece pieces.Done e = cc
not_piece pieces.NotYet e = cc
not_piece (pieces.Bytes text) e = cc

taken_by_reader : (reader : Option Reader) (piece : Piece) → (told_if_open (is_some reader) (piece_answer piece) ≡ answers.Closed) ↔ (reader ≡ None)
taken_by_reader None piece = (λ e. refl, λ e. refl)
taken_by_reader (Some reader) piece = (λ e. absurd (not_piece piece e), λ e. cc)

pub take_closed : (core : CoreState) (id : ℕ) → (answer core (events.Take id) ≡ answers.Closed) ↔ (reader_of core.acquisitions id ≡ None)
take_closed core id = taken_by_reader (reader_of core.acquisitions id) (piece_of (take_of core.acquisitions id))

piece_done : (taken : Taken) → (piece_answer (piece_of taken) ≡ answers.Finished) ↔ (taken ≡ takes.Done)
piece_done takes.Done = (λ e. refl, λ e. refl)
piece_done takes.NotYet = (λ e. cc, λ e. cc)
piece_done (takes.Bytes text reader) = (λ e. cc, λ e. cc)

done_by_reader : (all : AllAcquisitions) (reader : Option Reader) →
    (told_if_open (is_some reader) (piece_answer (piece_of (taken_by all reader))) ≡ answers.Finished) ↔ (taken_by all reader ≡ takes.Done)
done_by_reader all None = (λ e. cc, λ e. cc)
done_by_reader all (Some reader) = piece_done (taken_by all (Some reader))

pub take_finished : (core : CoreState) (id : ℕ) → (answer core (events.Take id) ≡ answers.Finished) ↔ (take_of core.acquisitions id ≡ takes.Done)
take_finished core id = done_by_reader core.acquisitions (reader_of core.acquisitions id)
