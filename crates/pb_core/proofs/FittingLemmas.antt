-- What comes of an event fits its kind.
use Rattle.std.proofs.Common.{◌≡◌, ℕ, Bool, true, false, List, Result, Ok, Err, cond, sym, ap, subst}
use Rattle.pb_words.specs.declared.OutOfMemory.{OutOfMemory}
use Rattle.pb_words.specs.declared.Refusal.{Refusal}
use Rattle.pb_encode.specs.declared.Options.{Options}
use Rattle.pb_encode.specs.Choosing.{options_of}
use Rattle.pb_acquire.specs.declared.readers.Piece.{Piece}
use Rattle.pb_acquire.specs.declared.readers.Piece.TheVariants as pieces
use Rattle.pb_acquire.specs.Taking.{take_of, piece_of}
use Rattle.pb_core.specs.declared.events.Event.TheVariants as events
use Rattle.pb_core.specs.declared.events.Answer.{Answer}
use Rattle.pb_core.specs.declared.events.Answer.TheVariants as answers
use Rattle.pb_core.specs.Core.{CoreState}
use Rattle.pb_core.specs.Sessions.{is_reading, opened_answer, piece_answer}
use Rattle.pb_core.specs.History.{IsResult, IsOpening, IsTaking}

opening_fits : (options : Result Options Refusal) → IsOpening (Ok (opened_answer options))
opening_fits (Ok options) = tt
opening_fits (Err refusal) = tt

pub is_opening : (core : CoreState) (id : ℕ) (line : List ℕ) (result : Result Answer OutOfMemory) → IsResult core (events.OpenData id line) result → IsOpening result
is_opening core id line (Ok told) h = subst (λ (a : Answer). IsOpening (Ok a)) (sym h) (opening_fits (options_of line))
is_opening core id line (Err lack) h = absurd h

piece_fits : (piece : Piece) → IsTaking (Ok (piece_answer piece))
piece_fits pieces.Done = tt
piece_fits pieces.NotYet = tt
piece_fits (pieces.Bytes text) = tt

taking_fits : (b : Bool) (told : Answer) → IsTaking (Ok told) → IsTaking (Ok (cond b told answers.Closed))
taking_fits true told h = h
taking_fits false told h = tt

pub is_taking : (core : CoreState) (id : ℕ) (result : Result Answer OutOfMemory) → IsResult core (events.Take id) result → IsTaking result
is_taking core id (Ok told) h =
    let all = core.acquisitions in
    subst (λ (a : Answer). IsTaking (Ok a)) (sym h) (taking_fits (is_reading all id) (piece_answer (piece_of (take_of all id))) (piece_fits (piece_of (take_of all id))))
is_taking core id (Err lack) h = tt

-- the opening of a control session, and the end of a session, are answered by nothing
pub opens_with_nothing : (core : CoreState) (id : ℕ) (result : Result Answer OutOfMemory) → IsResult core (events.OpenControl id) result → result ≡ Ok answers.Nothing
opens_with_nothing core id (Ok told) h = ap (λ (a : Answer). Ok a) h
opens_with_nothing core id (Err lack) h = absurd h

pub closes_with_nothing : (core : CoreState) (id : ℕ) (result : Result Answer OutOfMemory) → IsResult core (events.CloseControl id) result → result ≡ Ok answers.Nothing
closes_with_nothing core id (Ok told) h = ap (λ (a : Answer). Ok a) h
closes_with_nothing core id (Err lack) h = absurd h

pub leaves_with_nothing : (core : CoreState) (id : ℕ) (result : Result Answer OutOfMemory) → IsResult core (events.CloseData id) result → result ≡ Ok answers.Nothing
leaves_with_nothing core id (Ok told) h = ap (λ (a : Answer). Ok a) h
leaves_with_nothing core id (Err lack) h = absurd h
