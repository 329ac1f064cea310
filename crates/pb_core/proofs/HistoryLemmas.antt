-- Histories that go on by an entry.
use Rattle.std.proofs.Common.{◌≡◌, ◌-◌, ◌++◌, ◌∷◌, [], ℕ, zero, suc, Bool, true, false, List, Result, Ok, Err, IfOk, OnErr, cond, ◌≤◌, refl, sym, ◌∙◌, subst, arith}
use Rattle.pb_words.specs.declared.OutOfMemory.{OutOfMemory}
use Rattle.pb_words.specs.declared.Refusal.{Refusal}
use Rattle.pb_stim.specs.declared.Row.{Row}
use Rattle.pb_grammar.specs.Grammar.{Said, Query, Assign, Table, Echo, Bad, command_of}
use Rattle.pb_core.specs.declared.events.Event.{Event}
use Rattle.pb_core.specs.declared.events.Event.TheVariants as events
use Rattle.pb_core.specs.declared.events.Answer.{Answer}
use Rattle.pb_core.specs.declared.events.Answer.TheVariants as answers
use Rattle.pb_core.specs.declared.servers.Entry.{Entry}
use Rattle.pb_core.specs.declared.targets.Named.{Named}
use Rattle.pb_core.specs.declared.targets.Named.TheVariants as names
use Rattle.pb_core.specs.Core.{CoreState, opening, ticked, ticks_of_core}
use Rattle.pb_core.specs.Kept.{KeptCore, Agrees}
use Rattle.pb_core.specs.Captures.{clears, arms, disarms}
use Rattle.pb_core.specs.Assignments.{Deed, gives, captures, resets, assignment}
use Rattle.pb_core.specs.Writing.{Written, table_write}
use Rattle.pb_core.specs.Naming.{named_by}
use Rattle.pb_core.specs.Sessions.{is_open}
use Rattle.pb_going.specs.Sims.{outdated}
use Rattle.pb_core.specs.Costs.{Costs}
use Rattle.pb_core.specs.Answer.{CanHappen, answer, done_by, with_mark, after, said_after, asked_of, left_by, written_by, IsTold, after_told, EventMayLack}
use Rattle.pb_core.specs.History.{IsNext, IsLegal, StandsFor, after_entry, core_after, one_line_more, lines_behind}

-- The rows of the stimulus stay.

asked_rows : (core : CoreState) (id : ℕ) (named : Result Named Refusal) → (asked_of core id named).rows ≡ core.rows
asked_rows core id (Ok (names.Changes group)) = refl
asked_rows core id named = refl

left_rows : (core : CoreState) (id : ℕ) (deed : Result Deed Refusal) → (left_by core id deed).rows ≡ core.rows
left_rows core id (Ok (gives new)) = refl
left_rows core id (Ok (captures clears)) = refl
left_rows core id (Ok (captures (arms layout))) = refl
left_rows core id (Ok (captures disarms)) = refl
left_rows core id (Ok (resets group all)) = refl
left_rows core id (Err refusal) = refl

written_rows : (core : CoreState) (written : Result Written Refusal) → (written_by core written).rows ≡ core.rows
written_rows core (Ok new) = refl
written_rows core (Err refusal) = refl

said_rows : (core : CoreState) (id : ℕ) (said : Said) → (said_after core id said).rows ≡ core.rows
said_rows core id (Query target) = asked_rows core id (named_by target)
said_rows core id (Assign target value) = left_rows core id (assignment core.settings core.acquisitions target value)
said_rows core id (Table target append base64 body) = written_rows core (table_write core.box.stands target append base64 body)
said_rows core id (Echo text) = refl
said_rows core id (Bad refusal) = refl

either_rows : (b : Bool) (one other : CoreState) → one.rows ≡ other.rows → (cond b one other).rows ≡ other.rows
either_rows true one other h = h
either_rows false one other h = refl

ticks_rows : (n : ℕ) (core : CoreState) → (ticks_of_core n core).rows ≡ core.rows
ticks_rows zero core = refl
ticks_rows (suc n) core = ticks_rows n (ticked core)

done_rows : (core : CoreState) (event : Event) → (done_by core event).rows ≡ core.rows
done_rows core (events.OpenControl id) = refl
done_rows core (events.Line id text) = either_rows (is_open core.sessions id) (said_after core id (command_of text)) core (said_rows core id (command_of text))
done_rows core (events.Bad id refusal) = refl
done_rows core (events.CloseControl id) = refl
done_rows core (events.OpenData id options) = refl
done_rows core (events.Take id) = refl
done_rows core (events.CloseData id) = refl
done_rows core (events.Advance to most) = ticks_rows (to - core.box.stands.tick) core

mark_rows : (event : Event) (core : CoreState) → (with_mark event core).rows ≡ core.rows
mark_rows (events.Advance to most) core = refl
mark_rows event core = refl

after_rows : (core : CoreState) (event : Event) → (after core event).rows ≡ core.rows
after_rows core event = mark_rows event (done_by core event) ∙ done_rows core event

told_rows : (core : CoreState) (event : Event) (told : Answer) → (after_told core event told).rows ≡ core.rows
told_rows core (events.Advance to most) (answers.Reached tick why) = ticks_rows (tick - core.box.stands.tick) core
told_rows core event told = after_rows core event

-- One entry more.

pub legal_more : (core : CoreState) (history : List Entry) (entry : Entry) → IsLegal core history → IsNext (core_after core history) entry → IsLegal core (history ++ entry ∷ [])
legal_more core [] entry legal next = (next, tt)
legal_more core (first ∷ history) entry legal next = (legal.0, legal_more (after_entry core first) history entry legal.1 next)

pub legal_before : (core : CoreState) (history : List Entry) (entry : Entry) → IsLegal core (history ++ entry ∷ []) → IsLegal core history
legal_before core [] entry legal = tt
legal_before core (first ∷ history) entry legal = (legal.0, legal_before (after_entry core first) history entry legal.1)

-- the last entry is one that can stand there
pub last_is_next : (core : CoreState) (history : List Entry) (entry : Entry) → IsLegal core (history ++ entry ∷ []) → IsNext (core_after core history) entry
last_is_next core [] entry legal = legal.0
last_is_next core (first ∷ history) entry legal = last_is_next (after_entry core first) history entry legal.1

core_more : (core : CoreState) (history : List Entry) (entry : Entry) → core_after core (history ++ entry ∷ []) ≡ after_entry (core_after core history) entry
core_more core [] entry = refl
core_more core (first ∷ history) entry = core_more (after_entry core first) history entry

lines_more : (lines : ℕ) (history : List Entry) (entry : Entry) → lines_behind lines (history ++ entry ∷ []) ≡ one_line_more entry.event (lines_behind lines history)
lines_more lines [] entry = refl
lines_more lines (first ∷ history) entry = lines_more (one_line_more first.event lines) history entry

-- a line outdates at most one deadline, an advance leaves none outdated
due_more : (event : Event) (core : CoreState) (old new : KeptCore) (was spent lines : ℕ) → Costs event core old new was spent → outdated old.sim ≤ lines →
    outdated new.sim ≤ one_line_more event lines
due_more (events.Line id text) core old new was spent lines c h = omega (arith, c.outdates, h)
due_more (events.Advance to most) core old new was spent lines c h = omega (arith, c.known)
due_more event core old new was spent lines c h = omega (arith, c.outdates, h)

-- what is kept stands for a history more by an entry, where it agrees with the core after it
goes_on : (old new : KeptCore) (history : List Entry) (entry : Entry) → StandsFor old history → IsNext (core_after (opening old.sim.rows) history) entry
    → new.sim.rows ≡ old.sim.rows → Agrees new (after_entry (core_after (opening old.sim.rows) history) entry)
    → outdated new.sim ≤ one_line_more entry.event (lines_behind 0 history) → StandsFor new (history ++ entry ∷ [])
goes_on old new history entry h next same agrees due =
    let core : CoreState = opening old.sim.rows in
    record {
      legal = subst (λ rows. IsLegal (opening rows) (history ++ entry ∷ [])) (sym same) (legal_more core history entry h.legal next);
      agrees = subst (λ rows. Agrees new (core_after (opening rows) (history ++ entry ∷ []))) (sym same) (subst (Agrees new) (sym (core_more core history entry)) agrees);
      due = subst (λ n. outdated new.sim ≤ n) (sym (lines_more 0 history entry)) due;
    }

-- What a call leaves behind that answers like a core.
pub record Serves (old new : KeptCore) (event : Event) (result : Result Answer OutOfMemory) (was spent : ℕ) : Type 0 where
  pub ok : (core : CoreState) → Agrees old core → IfOk result (IsTold core event)
  pub core : (core : CoreState) → Agrees old core → IfOk result (λ told. Agrees new (after_told core event told))
  pub err : (core : CoreState) → Agrees old core → OnErr result (Agrees new core)
  pub memory : (core : CoreState) → Agrees old core → OnErr result (EventMayLack event (answer core event))
  pub counts : (core : CoreState) → Agrees old core → Costs event core old new was spent

same_rows : (old new : KeptCore) (core next : CoreState) → Agrees old core → Agrees new next → next.rows ≡ core.rows → new.sim.rows ≡ old.sim.rows
same_rows old new core next a b e = b.run.rows ∙ (e ∙ sym a.run.rows)

pub serves_rows : (old new : KeptCore) (event : Event) (result : Result Answer OutOfMemory) (was spent : ℕ) (history : List Entry) → Serves old new event result was spent → StandsFor old history → new.sim.rows ≡ old.sim.rows
serves_rows old new event (Ok told) was spent history s h =
    let core : CoreState = core_after (opening old.sim.rows) history in
    same_rows old new core (after_told core event told) h.agrees (s.core core h.agrees) (told_rows core event told)
serves_rows old new event (Err lack) was spent history s h =
    let core : CoreState = core_after (opening old.sim.rows) history in
    same_rows old new core core h.agrees (s.err core h.agrees) refl

pub serves_more : (old new : KeptCore) (event : Event) (result : Result Answer OutOfMemory) (was spent : ℕ) (history : List Entry) → CanHappen event → Serves old new event result was spent → StandsFor old history
    → StandsFor new (history ++ record { event = event; result = result } ∷ [])
serves_more old new event (Ok told) was spent history can s h =
    let core : CoreState = core_after (opening old.sim.rows) history in
    goes_on old new history (record { event = event; result = Ok told }) h (record { can = can; told = s.ok core h.agrees }) (serves_rows old new event (Ok told) was spent history s h) (s.core core h.agrees)
    (due_more event core old new was spent (lines_behind 0 history) (s.counts core h.agrees) h.due)
serves_more old new event (Err lack) was spent history can s h =
    let core : CoreState = core_after (opening old.sim.rows) history in
    goes_on old new history (record { event = event; result = Err lack }) h (record { can = can; told = s.memory core h.agrees }) (serves_rows old new event (Err lack) was spent history s h) (s.err core h.agrees)
    (due_more event core old new was spent (lines_behind 0 history) (s.counts core h.agrees) h.due)

-- a core that has just opened
pub stands_at_first : (kept : KeptCore) (rows : List Row) → Agrees kept (opening rows) → outdated kept.sim ≡ 0 → StandsFor kept []
stands_at_first kept rows h known =
    record { legal = tt; agrees = subst (λ (r : List Row). Agrees kept (opening r)) (sym h.run.rows) h; due = omega (arith, known) }
