-- What a legal history does to the acquisitions and their readers.
use Rattle.std.proofs.Common.{◌≡◌, ◌≢◌, ◌==◌, ◌+◌, ◌-◌, ◌<◌, ◌≤◌, ◌++◌, ◌∷◌, [], ℕ, zero, suc, Bool, true, false, List, length, Option, Some, None, is_some, Result, Ok, Err, cond, refl, sym, ap, ◌∙◌, subst, append-nil, append_assoc, arith}
use Rattle.std.specs.List.{All}
use Rattle.std.proofs.lemmas.Bool.{cond_both}
use Rattle.std.proofs.lemmas.List.Elements.{All-nil, All-cons, All-head, All-tail}
use Rattle.pb_words.specs.declared.OutOfMemory.{OutOfMemory}
use Rattle.pb_words.specs.declared.Refusal.{Refusal}
use Rattle.pb_buses.specs.declared.Condition.TheVariants as conditions
use Rattle.pb_buses.specs.declared.Emit.{Emit}
use Rattle.pb_buses.specs.declared.Emit.TheVariants as emits
use Rattle.pb_stim.specs.declared.Row.{Row}
use Rattle.pb_model.specs.Tick.{emitted_of}
use Rattle.pb_encode.specs.declared.Options.{Options}
use Rattle.pb_encode.specs.Choosing.{options_of}
use Rattle.pb_acquire.specs.declared.readers.Reader.{Reader}
use Rattle.pb_acquire.specs.declared.readers.Taken.{Taken}
use Rattle.pb_acquire.specs.declared.readers.Taken.TheVariants as takes
use Rattle.pb_acquire.specs.Acquisitions.{AllAcquisitions, arm_refusal, armed}
use Rattle.pb_acquire.specs.Taking.{reader_of, take_of, taken, taken_by, own, piece_of, opened}
use Rattle.pb_acquire.specs.Streams.{armed_unless, after_event, after_events, bytes_in, handed_by, handed, Spares, RunsOn, IsGivenTo}
use Rattle.pb_acquire.specs.Streams as streams
use Rattle.pb_acquire.proofs.EventLemmas.{runs_on, as_many}
use Rattle.pb_grammar.specs.Grammar.{Said, Query, Assign, Table, Echo, Bad, command_of}
use Rattle.pb_core.specs.declared.Event.{Event}
use Rattle.pb_core.specs.declared.Event.TheVariants as events
use Rattle.pb_core.specs.declared.Answer.{Answer}
use Rattle.pb_core.specs.declared.Answer.TheVariants as answers
use Rattle.pb_core.specs.declared.Entry.{Entry}
use Rattle.pb_core.specs.Core.{CoreState, opening, ticked, ticks_of_core}
use Rattle.pb_core.specs.Tick as ticks
use Rattle.pb_core.specs.Captures.{clears, arms, disarms}
use Rattle.pb_core.specs.Assignments.{Deed, gives, captures, resets, assignment}
use Rattle.pb_core.specs.Writing.{Written, table_write}
use Rattle.pb_core.specs.Sessions.{IsSession, is_open, is_reading, piece_answer, opened_by}
use Rattle.pb_core.specs.Answer.{CanHappen, answer, after, said_after, asked_of, left_by, written_by, after_told}
use Rattle.pb_core.specs.History.{IsNext, IsLegal, IsResult, after_result, after_entry, core_after}
use Rattle.pb_session.proofs.CommandLemmas.{ArmsRightly, arms_rightly, asked_stays}

-- the piece, where the session of this id took one
abbrev pub piece_in : ℕ → Event → Result Answer OutOfMemory → List ℕ
piece_in id (events.Take other) (Ok (answers.Piece text)) = cond (id == other) text []
piece_in id event result = []

-- all pieces that it was handed, one after the other
abbrev pub pieces_in : ℕ → List Entry → List ℕ
pieces_in id [] = []
pieces_in id (entry ∷ history) = piece_in id entry.event entry.result ++ pieces_in id history

-- The event neither opens nor closes the data session of this id.
abbrev pub SparesReader : ℕ → Event → Type 0
SparesReader id (events.OpenData other line) = other ≢ id
SparesReader id (events.CloseData other) = other ≢ id
SparesReader id event = Unit {0}

-- What becomes of all acquisitions, as events of theirs, and what the reader of this id is handed on the way.
pub record Moves (id : ℕ) (all next : AllAcquisitions) (spares : Type 0) (bytes : List ℕ) : Type 0 where
  pub moved : List streams.Event
  pub is : next ≡ after_events all moved
  pub spared : spares → All (Spares id) moved
  pub told : bytes ≡ handed id all moved

stays : (id : ℕ) (all : AllAcquisitions) (spares : Type 0) → Moves id all all spares []
stays id all spares = record { moved = []; is = refl; spared = λ _. All-nil (Spares id); told = refl }

moves_by : (id : ℕ) (all : AllAcquisitions) (spares : Type 0) (event : streams.Event) → (spares → Spares id event) → Moves id all (after_event all event) spares (handed_by id all event)
moves_by id all spares event spared =
    record { moved = event ∷ []; is = refl; spared = λ s. All-cons (Spares id) event [] (spared s) (All-nil (Spares id)); told = sym (append-nil (handed_by id all event)) }

after_both : (all : AllAcquisitions) (xs ys : List streams.Event) → after_events all (xs ++ ys) ≡ after_events (after_events all xs) ys
after_both all [] ys = refl
after_both all (x ∷ xs) ys = after_both (after_event all x) xs ys

handed_both : (id : ℕ) (all : AllAcquisitions) (xs ys : List streams.Event) → handed id all (xs ++ ys) ≡ handed id all xs ++ handed id (after_events all xs) ys
handed_both id all [] ys = refl
handed_both id all (x ∷ xs) ys =
    ap (λ (l : List ℕ). handed_by id all x ++ l) (handed_both id (after_event all x) xs ys) ∙ sym (append_assoc (handed_by id all x) (handed id (after_event all x) xs) (handed id (after_events (after_event all x) xs) ys))

spares_both : (id : ℕ) (xs ys : List streams.Event) → All (Spares id) xs → All (Spares id) ys → All (Spares id) (xs ++ ys)
spares_both id [] ys a b = b
spares_both id (x ∷ xs) ys a b = All-cons (Spares id) x (xs ++ ys) (All-head (Spares id) x xs a) (spares_both id xs ys (All-tail (Spares id) x xs a) b)

moves_twice : (id : ℕ) (all mid next : AllAcquisitions) (spares : Type 0) (xs ys : List ℕ) → Moves id all mid spares xs → Moves id mid next spares ys → Moves id all next spares (xs ++ ys)
moves_twice id all mid next spares xs ys a b =
    record {
      moved = a.moved ++ b.moved;
      is = b.is ∙ (ap (λ (m : AllAcquisitions). after_events m b.moved) a.is ∙ sym (after_both all a.moved b.moved));
      spared = λ s. spares_both id a.moved b.moved (a.spared s) (b.spared s);
      told = ap (λ (l : List ℕ). l ++ ys) a.told
          ∙ (ap (λ (l : List ℕ). handed id all a.moved ++ l) (b.told ∙ ap (λ (m : AllAcquisitions). handed id m b.moved) a.is) ∙ sym (handed_both id all a.moved b.moved));
    }

module _ (id : ℕ) (spares : Type 0) where
  -- Ticks.

  emit_moves : (emit : Emit) (all : AllAcquisitions) → Moves id all (ticks.taken emit all) spares []
  emit_moves emits.Nothing all = stays id all spares
  emit_moves (emits.Record row) all = moves_by id all spares (streams.adds row) (λ _. tt)
  emit_moves (emits.Completed condition) all = moves_by id all spares (streams.ends condition) (λ _. tt)

  ticks_move : (n : ℕ) (core : CoreState) → Moves id core.acquisitions (ticks_of_core n core).acquisitions spares []
  ticks_move zero core = stays id core.acquisitions spares
  ticks_move (suc n) core =
      moves_twice id core.acquisitions (ticked core).acquisitions (ticks_of_core n (ticked core)).acquisitions spares [] [] (emit_moves (emitted_of core.box.stands) core.acquisitions) (ticks_move n (ticked core))

  -- Commands.

  deed_moves : (core : CoreState) (by : ℕ) (deed : Result Deed Refusal) → ArmsRightly core.acquisitions deed → Moves id core.acquisitions (left_by core by deed).acquisitions spares []
  deed_moves core by (Ok (gives new)) right = stays id core.acquisitions spares
  deed_moves core by (Ok (captures clears)) right = stays id core.acquisitions spares
  deed_moves core by (Ok (captures (arms layout))) right =
      subst (λ (next : AllAcquisitions). Moves id core.acquisitions next spares []) (ap (λ (r : Option Refusal). armed_unless r layout core.acquisitions) right)
      (moves_by id core.acquisitions spares (streams.arms layout) (λ _. tt))
  deed_moves core by (Ok (captures disarms)) right = moves_by id core.acquisitions spares (streams.ends conditions.Disarmed) (λ _. tt)
  deed_moves core by (Ok (resets group all)) right = stays id core.acquisitions spares
  deed_moves core by (Err refusal) right = stays id core.acquisitions spares

  written_moves : (core : CoreState) (r : Result Written Refusal) → Moves id core.acquisitions (written_by core r).acquisitions spares []
  written_moves core (Ok new) = stays id core.acquisitions spares
  written_moves core (Err refusal) = stays id core.acquisitions spares

  said_moves : (core : CoreState) (by : ℕ) (said : Said) → Moves id core.acquisitions (said_after core by said).acquisitions spares []
  said_moves core by (Query target) = subst (λ (next : AllAcquisitions). Moves id core.acquisitions next spares []) (sym (asked_stays core by target)) (stays id core.acquisitions spares)
  said_moves core by (Assign target value) = deed_moves core by (assignment core.settings core.acquisitions target value) (arms_rightly core target value)
  said_moves core by (Table target append base64 body) = written_moves core (table_write core.box.stands target append base64 body)
  said_moves core by (Echo text) = stays id core.acquisitions spares
  said_moves core by (Bad refusal) = stays id core.acquisitions spares

  line_moves : (core : CoreState) (by : ℕ) (said : Said) (b : Bool) → Moves id core.acquisitions (cond b (said_after core by said) core).acquisitions spares []
  line_moves core by said true = said_moves core by said
  line_moves core by said false = stays id core.acquisitions spares

  -- Readers.

  opened_moves : (all : AllAcquisitions) (other : ℕ) (options : Result Options Refusal) → (spares → (1 ≤ other) × (other ≢ id)) → Moves id all (opened_by other options all) spares []
  opened_moves all other (Ok options) spared = moves_by id all spares (streams.opens other options) spared
  opened_moves all other (Err refusal) spared = stays id all spares

  abbrev no_bytes : List ℕ
  no_bytes = []

  nothing_else : (b : Bool) → cond b no_bytes no_bytes ≡ no_bytes
  nothing_else true = refl
  nothing_else false = refl

  taken_bytes : (other : ℕ) (t : Taken) → piece_in id (events.Take other) (Ok (piece_answer (piece_of t))) ≡ cond (id == other) (bytes_in t) []
  taken_bytes other takes.Done = sym (nothing_else (id == other))
  taken_bytes other takes.NotYet = sym (nothing_else (id == other))
  taken_bytes other (takes.Bytes text reader) = refl

  take_bytes : (all : AllAcquisitions) (other : ℕ) (reader : Option Reader)
      → piece_in id (events.Take other) (Ok (cond (is_some reader) (piece_answer (piece_of (taken_by all reader))) answers.Closed)) ≡ cond (id == other) (bytes_in (taken_by all reader)) []
  take_bytes all other None = sym (nothing_else (id == other))
  take_bytes all other (Some reader) = taken_bytes other (taken reader (own reader all))

  -- box time goes on
  advanced_moves : (core : CoreState) (to most : ℕ) (told : Answer) → Moves id core.acquisitions (after_told core (events.Advance to most) told).acquisitions spares []
  advanced_moves core to most (answers.Reached tick why) = ticks_move (tick - core.box.stands.tick) core
  advanced_moves core to most told = ticks_move (to - core.box.stands.tick) core

  -- one event that was answered
  answered_moves : (core : CoreState) (event : Event) (told : Answer) → CanHappen event → IsResult core event (Ok told) → (spares → SparesReader id event)
      → Moves id core.acquisitions (after_told core event told).acquisitions spares (piece_in id event (Ok told))
  answered_moves core (events.OpenControl other) told can is spared = stays id core.acquisitions spares
  answered_moves core (events.Line other text) told can is spared = line_moves core other (command_of text) (is_open core.sessions other)
  answered_moves core (events.Bad other refusal) told can is spared = stays id core.acquisitions spares
  answered_moves core (events.CloseControl other) told can is spared = stays id core.acquisitions spares
  answered_moves core (events.OpenData other line) told can is spared = opened_moves core.acquisitions other (options_of line) (λ s. (can.from_one, spared s))
  answered_moves core (events.Take other) told can is spared =
      let all = core.acquisitions in
      subst (λ (bytes : List ℕ). Moves id all (after_event all (streams.asks other)) spares bytes)
      (sym (ap (λ (a : Answer). piece_in id (events.Take other) (Ok a)) is ∙ take_bytes all other (reader_of all other)))
      (moves_by id all spares (streams.asks other) (λ _. can.from_one))
  answered_moves core (events.CloseData other) told can is spared = moves_by id core.acquisitions spares (streams.closes other) (λ s. (can.from_one, spared s))
  answered_moves core (events.Advance to most) told can is spared = advanced_moves core to most told

  lacking_piece : (event : Event) (lack : OutOfMemory) → piece_in id event (Err lack) ≡ []
  lacking_piece (events.Take other) lack = refl
  lacking_piece event lack = refl

  entry_moves : (core : CoreState) (event : Event) (result : Result Answer OutOfMemory) → CanHappen event → IsResult core event result → (spares → SparesReader id event)
      → Moves id core.acquisitions (after_result core event result).acquisitions spares (piece_in id event result)
  entry_moves core event (Ok told) can is spared = answered_moves core event told can is spared
  entry_moves core event (Err lack) can is spared =
      subst (λ (bytes : List ℕ). Moves id core.acquisitions core.acquisitions spares bytes) (sym (lacking_piece event lack)) (stays id core.acquisitions spares)

  pub history_moves : (core : CoreState) (history : List Entry) → IsLegal core history → (spares → All (λ (e : Entry). SparesReader id e.event) history)
      → Moves id core.acquisitions (core_after core history).acquisitions spares (pieces_in id history)
  history_moves core [] legal spared = stays id core.acquisitions spares
  history_moves core (e ∷ history) legal spared =
      let next = after_entry core e in
      moves_twice id core.acquisitions next.acquisitions (core_after next history).acquisitions spares (piece_in id e.event e.result) (pieces_in id history)
      (entry_moves core e.event e.result legal.0.can legal.0.told (λ s. All-head (λ (x : Entry). SparesReader id x.event) e history (spared s)))
      (history_moves next history legal.1 (λ s. All-tail (λ (x : Entry). SparesReader id x.event) e history (spared s)))

-- Whatever happened, there are eight places for readers, and what runs isn't over.

pub many_on : (all : AllAcquisitions) (moved : List streams.Event) → RunsOn all.running → RunsOn (after_events all moved).running
many_on all [] runs = runs
many_on all (x ∷ moved) runs = many_on (after_event all x) moved (runs_on all x runs)

pub many_as_many : (all : AllAcquisitions) (moved : List streams.Event) → length (after_events all moved).readers ≡ length all.readers
many_as_many all [] = refl
many_as_many all (x ∷ moved) = many_as_many (after_event all x) moved ∙ as_many all x
