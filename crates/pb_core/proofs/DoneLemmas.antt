-- What a refused command leaves, and one that is answered by a reply.
use Rattle.std.proofs.Common.{◌≡◌, ◌≢◌, ℕ, suc, ◌==◌, Bool, true, false, List, [], ◌∷◌, length, codes, Option, Result, Ok, Err, refl, ap, inl, inr, ◌⊎◌, arith, ne_eqb}
use Rattle.std.specs.Prelude.{if◌then◌else◌}
use Rattle.pb_words.specs.declared.Refusal.{Refusal}
use Rattle.pb_words.specs.declared.Refusal.TheVariants as refusals
use Rattle.pb_words.specs.Refusing.{result_then, result_map}
use Rattle.pb_grammar.specs.Grammar.{Said, Query, Assign, Table, Echo, Bad, command_of}
use Rattle.pb_changes.specs.declared.Group.{Group}
use Rattle.pb_config.specs.Settings.{Settings}
use Rattle.pb_encode.specs.declared.Options.{Options}
use Rattle.pb_encode.specs.Choosing.{options_of}
use Rattle.pb_acquire.specs.declared.readers.Piece.{Piece}
use Rattle.pb_acquire.specs.declared.readers.Piece.TheVariants as pieces
use Rattle.pb_acquire.specs.Acquisitions.{AllAcquisitions}
use Rattle.pb_acquire.specs.Taking.{taken_by, take_of, piece_of, left_by as reader_left_by}
use Rattle.pb_core.specs.declared.events.Answer.TheVariants as answers
use Rattle.pb_core.specs.declared.events.Event.{Event}
use Rattle.pb_core.specs.declared.events.Event.TheVariants as events
use Rattle.pb_core.specs.declared.targets.Named.{Named}
use Rattle.pb_core.specs.declared.targets.Named.TheVariants as names
use Rattle.pb_core.specs.Core.{CoreState, marked, with_acquisitions}
use Rattle.pb_core.specs.Naming.{named_by}
use Rattle.pb_core.specs.Sessions.{open_of, is_open, is_reading, told_if_open, opened_answer, opened_by, piece_answer}
use Rattle.pb_core.specs.Queries.{named_reply}
use Rattle.pb_core.specs.Telling.{reports_to, after_telling}
use Rattle.pb_core.specs.Assignments.{Deed, resets, reset_given, assignment}
use Rattle.pb_core.specs.Writing.{Written, table_write}
use Rattle.pb_core.specs.Answer.{replied, done, left_by, written_by, asked_of, line_answer, said_after, answer, done_by, after, AsksForReport}
use Rattle.pb_core.proofs.ClosedLemmas.{not_said, take_closed}
use Rattle.pb_core.proofs.NamingLemmas.{is_same-false}

-- A refused command leaves the core.

query_refused : (core : CoreState) (id : ℕ) (r : Result Named Refusal) (refusal : Refusal) →
    replied (result_then r (named_reply core.settings core.box.stands (open_of core.sessions) core.acquisitions (reports_to core id))) ≡ answers.Error refusal →
    asked_of core id r ≡ core
query_refused core id (Ok (names.Changes group)) refusal e = absurd (cc)
query_refused core id (Err other) refusal e = refl
query_refused core id (Ok named) refusal e = refl

deed_refused : (core : CoreState) (id : ℕ) (r : Result Deed Refusal) (refusal : Refusal) → done r ≡ answers.Error refusal → left_by core id r ≡ core
deed_refused core id (Ok deed) refusal e = absurd (cc)
deed_refused core id (Err other) refusal e = refl

body_refused : (core : CoreState) (r : Result Written Refusal) (refusal : Refusal) → done r ≡ answers.Error refusal → written_by core r ≡ core
body_refused core (Ok new) refusal e = absurd (cc)
body_refused core (Err other) refusal e = refl

said_refused : (core : CoreState) (id : ℕ) (said : Said) (refusal : Refusal) → line_answer core id said ≡ answers.Error refusal → said_after core id said ≡ core
said_refused core id (Query target) refusal e = query_refused core id (named_by target) refusal e
said_refused core id (Assign target value) refusal e = deed_refused core id (assignment core.settings core.acquisitions target value) refusal e
said_refused core id (Table target append base64 body) refusal e =
    body_refused core (table_write core.box.stands target append base64 body) refusal e
said_refused core id (Echo text) refusal e = refl
said_refused core id (Bad other) refusal e = refl

pub line_refused : (is_there : Bool) (core : CoreState) (id : ℕ) (said : Said) (refusal : Refusal) →
    told_if_open is_there (line_answer core id said) ≡ answers.Error refusal → (if is_there then said_after core id said else core) ≡ core
line_refused true core id said refusal e = said_refused core id said refusal e
line_refused false core id said refusal e = refl

-- So does any event that is refused.

options_refused : (core : CoreState) (id : ℕ) (r : Result Options Refusal) (refusal : Refusal) → opened_answer r ≡ answers.Error refusal →
    with_acquisitions core (opened_by id r core.acquisitions) ≡ core
options_refused core id (Ok options) refusal e = absurd (cc)
options_refused core id (Err other) refusal e = refl

not_taken : (is_there : Bool) (piece : Piece) (refusal : Refusal) → told_if_open is_there (piece_answer piece) ≡ answers.Error refusal → ⊥
not_taken false piece refusal e = cc
not_taken true pieces.Done refusal e = cc
not_taken true pieces.NotYet refusal e = cc
not_taken true (pieces.Bytes text) refusal e = cc

done_refused : (core : CoreState) (event : Event) (refusal : Refusal) → answer core event ≡ answers.Error refusal → done_by core event ≡ core
done_refused core (events.OpenControl id) refusal e = absurd (cc)
done_refused core (events.Line id text) refusal e = line_refused (is_open core.sessions id) core id (command_of text) refusal e
done_refused core (events.Bad id other) refusal e = refl
done_refused core (events.CloseControl id) refusal e = absurd (cc)
done_refused core (events.OpenData id options) refusal e = options_refused core id (options_of options) refusal e
done_refused core (events.Take id) refusal e =
    absurd (not_taken (is_reading core.acquisitions id) (piece_of (take_of core.acquisitions id)) refusal e)
done_refused core (events.CloseData id) refusal e = absurd (cc)
done_refused core (events.Advance to most) refusal e = absurd (cc)

pub event_refused : (core : CoreState) (event : Event) (refusal : Refusal) → answer core event ≡ answers.Error refusal → after core event ≡ marked core
event_refused core (events.Advance to most) refusal e = absurd (cc)
event_refused core event refusal e = ap marked (done_refused core event refusal e)

-- And one of a session that isn't open.

line_closed_left : (is_there : Bool) (core : CoreState) (id : ℕ) (said : Said) → told_if_open is_there (line_answer core id said) ≡ answers.Closed →
    (if is_there then said_after core id said else core) ≡ core
line_closed_left true core id said e = absurd (not_said core id said e)
line_closed_left false core id said e = refl

not_opened : (r : Result Options Refusal) → opened_answer r ≡ answers.Closed → ⊥
not_opened (Ok options) e = cc
not_opened (Err refusal) e = cc

done_closed : (core : CoreState) (event : Event) → answer core event ≡ answers.Closed → done_by core event ≡ core
done_closed core (events.OpenControl id) e = absurd (cc)
done_closed core (events.Line id text) e = line_closed_left (is_open core.sessions id) core id (command_of text) e
done_closed core (events.Bad id refusal) e = refl
done_closed core (events.CloseControl id) e = absurd (cc)
done_closed core (events.OpenData id options) e = absurd (not_opened (options_of options) e)
done_closed core (events.Take id) e =
    ap (λ reader. with_acquisitions core (reader_left_by id core.acquisitions (taken_by core.acquisitions reader))) ((take_closed core id).0 e)
done_closed core (events.CloseData id) e = absurd (cc)
done_closed core (events.Advance to most) e = absurd (cc)

pub event_closed : (core : CoreState) (event : Event) → answer core event ≡ answers.Closed → after core event ≡ marked core
event_closed core (events.Advance to most) e = absurd (cc)
event_closed core event e = ap marked (done_closed core event e)

-- Of lines that are answered by a reply only those that ask for a report leave something.

abbrev pub IsReported : CoreState → ℕ → Said → CoreState → Type 0
IsReported core id said next = (next ≡ core) ⊎ ((group : Option Group) × AsksForReport said group × (next ≡ after_telling core id group))

query_replied : (core : CoreState) (id : ℕ) (target : List ℕ) (r : Result Named Refusal) → named_by target ≡ r →
    IsReported core id (Query target) (asked_of core id r)
query_replied core id target (Ok (names.Changes group)) e = inr (group, (target, refl, e), refl)
query_replied core id target (Err other) e = inl refl
query_replied core id target (Ok named) e = inl refl

not_done : {X : Type 0} (r : Result X Refusal) (reply : List ℕ) → done r ≡ answers.Reply reply → ⊥
not_done (Ok new) reply e = cc
not_done (Err refusal) reply e = cc

said_replied : (core : CoreState) (id : ℕ) (said : Said) (reply : List ℕ) → line_answer core id said ≡ answers.Reply reply →
    IsReported core id said (said_after core id said)
said_replied core id (Query target) reply e = query_replied core id target (named_by target) refl
said_replied core id (Assign target value) reply e = absurd (not_done (assignment core.settings core.acquisitions target value) reply e)
said_replied core id (Table target append base64 body) reply e =
    absurd (not_done (table_write core.box.stands target append base64 body) reply e)
said_replied core id (Echo text) reply e = inl refl
said_replied core id (Bad refusal) reply e = inl refl

line_replied : (is_there : Bool) (core : CoreState) (id : ℕ) (said : Said) (reply : List ℕ) →
    told_if_open is_there (line_answer core id said) ≡ answers.Reply reply →
    IsReported core id said (if is_there then said_after core id said else core)
line_replied true core id said reply e = said_replied core id said reply e
line_replied false core id said reply e = inl refl

marked_reported : (core : CoreState) (id : ℕ) (said : Said) (next : CoreState) → IsReported core id said next →
    (marked next ≡ marked core) ⊎ ((group : Option Group) × AsksForReport said group × (marked next ≡ marked (after_telling core id group)))
marked_reported core id said next (inl e) = inl (ap marked e)
marked_reported core id said next (inr (group, asks, e)) = inr (group, asks, ap marked e)

pub line_marked : (core : CoreState) (id : ℕ) (bytes reply : List ℕ) → answer core (events.Line id bytes) ≡ answers.Reply reply →
    (after core (events.Line id bytes) ≡ marked core)
    ⊎ ((group : Option Group) × AsksForReport (command_of bytes) group × (after core (events.Line id bytes) ≡ marked (after_telling core id group)))
line_marked core id bytes reply e =
    marked_reported core id (command_of bytes) (done_by core (events.Line id bytes)) (line_replied (is_open core.sessions id) core id (command_of bytes) reply e)

-- which values a reset doesn't take

no_zero : (n : ℕ) → suc n ≡ 0 → ⊥
no_zero n e = omega (arith, e)

not_empty : (value : List ℕ) → value ≢ [] → (length value == 0) ≡ false
not_empty [] n = absurd (n refl)
not_empty (x ∷ xs) n = ne_eqb (suc (length xs)) 0 (no_zero (length xs))

pub reset_refused : (value : List ℕ) → value ≢ codes "S" → value ≢ codes "E" → value ≢ [] → reset_given value ≡ Err refusals.MalformedValue
reset_refused value s e n =
    rw (is_same-false value (codes "S") s, is_same-false value (codes "E") e, not_empty value n) refl

pub reset_given_refused : (settings : Settings) (all : AllAcquisitions) (target value : List ℕ) (group : Option Group) →
    named_by target ≡ Ok (names.Changes group) → value ≢ codes "S" → value ≢ codes "E" → value ≢ [] →
    assignment settings all target value ≡ Err refusals.MalformedValue
reset_given_refused settings all target value group e s x n =
    let reset : result_map (resets group) (reset_given value) ≡ Err refusals.MalformedValue = ap (result_map (resets group)) (reset_refused value s x n) in
    rw e reset
