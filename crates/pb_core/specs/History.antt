-- Histories: what happened to a core, and what came of it.
use Rattle.std.specs.Prelude.{ℕ, ◌+◌, ◌≤◌, List, [], ◌∷◌, Result, Ok, Err, ⊤}
use Rattle.pb_words.specs.declared.OutOfMemory.{OutOfMemory}
use Rattle.pb_going.specs.Sims.{outdated}
use Rattle.pb_core.specs.declared.events.Event.{Event}
use Rattle.pb_core.specs.declared.events.Event.TheVariants as events
use Rattle.pb_core.specs.declared.events.Answer.{Answer}
use Rattle.pb_core.specs.declared.events.Answer.TheVariants as answers
use Rattle.pb_core.specs.declared.servers.Entry.{Entry}
use Rattle.pb_core.specs.Core.{CoreState, opening}
use Rattle.pb_core.specs.Kept.{KeptCore, Agrees}
use Rattle.pb_core.specs.Answer.{CanHappen, answer, IsTold, after_told, EventMayLack}

-- What may come of an event: it is answered, or where its answer needs memory there is none.
abbrev pub IsResult : CoreState → Event → Result Answer OutOfMemory → Type 0
IsResult core event (Ok told) = IsTold core event told
IsResult core event (Err lack) = EventMayLack event (answer core event)

-- the core after it: want of memory changes nothing
abbrev pub after_result : CoreState → Event → Result Answer OutOfMemory → CoreState
after_result core event (Ok told) = after_told core event told
after_result core event (Err lack) = core

-- the core after an entry
abbrev pub after_entry : CoreState → Entry → CoreState
after_entry core entry = after_result core entry.event entry.result

-- An entry can stand in a history behind this core.
pub record IsNext (core : CoreState) (entry : Entry) : Type 0 where
  pub can : CanHappen entry.event
  pub told : IsResult core entry.event entry.result

-- the core after a history
abbrev pub core_after : CoreState → List Entry → CoreState
core_after core [] = core
core_after core (entry ∷ history) = core_after (after_entry core entry) history

-- A history is legal from a core on: each event can happen, and what came of it is what the core then answers, or want of memory where that may come.
abbrev pub IsLegal : CoreState → List Entry → Type 0
IsLegal core [] = ⊤
IsLegal core (entry ∷ history) = IsNext core entry × IsLegal (after_entry core entry) history

-- how many lines there are behind the last advance of a history; behind so many, where it has none
abbrev pub one_line_more : Event → ℕ → ℕ
one_line_more (events.Line id text) lines = lines + 1
one_line_more (events.Advance to most) lines = 0
one_line_more event lines = lines

abbrev pub lines_behind : ℕ → List Entry → ℕ
lines_behind lines [] = lines
lines_behind lines (entry ∷ history) = lines_behind (one_line_more entry.event lines) history

-- What is kept of a core stands for a history that is legal from the core on in which its stimulus began, and in which it ends: it agrees
-- with the core after it, and has at most as many outdated deadlines as there are lines behind its last advance.
pub record StandsFor (kept : KeptCore) (history : List Entry) : Type 0 where
  pub legal : IsLegal (opening kept.sim.rows) history
  pub agrees : Agrees kept (core_after (opening kept.sim.rows) history)
  pub due : outdated kept.sim ≤ lines_behind 0 history

-- What comes of events by their kinds.

-- of the opening of a data session: it is open, or its options are refused
abbrev pub IsOpening : Result Answer OutOfMemory → Type 0
IsOpening (Ok (answers.Opened status)) = ⊤
IsOpening (Ok (answers.Error refusal)) = ⊤
IsOpening result = ⊥

-- of a data session that takes
abbrev pub IsTaking : Result Answer OutOfMemory → Type 0
IsTaking (Ok (answers.Piece text)) = ⊤
IsTaking (Ok answers.NotYet) = ⊤
IsTaking (Ok answers.Finished) = ⊤
IsTaking (Ok answers.Closed) = ⊤
IsTaking (Ok other) = ⊥
IsTaking (Err lack) = ⊤
