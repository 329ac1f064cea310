-- The parts of a line that is played: what its events write and leave.
use Rattle.std.proofs.Common.{◌≡◌, ℕ, Bool, true, false, List, [], ◌∷◌, ◌++◌, Option, if◌then◌else◌, sym, ap, subst, ◌∙◌}
use Rattle.std.proofs.lemmas.List.{append-nil}
use Rattle.pb_grammar.specs.Streams.{is_whole}
use Rattle.pb_core.specs.declared.Event.{Event}
use Rattle.pb_core.specs.declared.Event.TheVariants as events
use Rattle.pb_core.specs.Answer.{CoreState, after, after_all}
use Rattle.pb_core.specs.Kept.{KeptCore, Agrees}
use Rattle.pb_core.specs.Sessions.{is_open, is_reading}
use Rattle.pb_core.proofs.MarkLemmas.{open_same}
use Rattle.pb_replay.specs.declared.played.Told.{Told}
use Rattle.pb_replay.specs.declared.played.Told.TheVariants as ends
use Rattle.pb_replay.specs.Script.{Timed, Command, OpenData}
use Rattle.pb_grammar.specs.Feeding.{Kept, Completed, HasWhole}
use Rattle.pb_replay.specs.Events.{going_to, waits_of, with_line, opened_for, sent, at_tick, closed_for, events_of}
use Rattle.pb_replay.specs.Output.{written, sections}
use Rattle.pb_replay.specs.Pending.{PlaysOn}
use Rattle.pb_replay.specs.Waiting.{AreFed, kept_of}
use Rattle.pb_replay.proofs.PendingLemmas.{plays_on_nothing, front_none}

-- the events of a line of a control session that is open, and of one that isn't, by whether it completes a command

-- what a line of a session comes to, by what it opens and sends
abbrev own : (tick session : ℕ) (there whole : Bool) (bytes : List ℕ) → List Event
own tick session there whole bytes =
    at_tick tick (opened_for there session ++ (if whole then sent session bytes ∷ [] else []))

-- The session is open, and the line completes a command.
pub next_command : (P : List Event → Type 0) (core : CoreState) (waiting : List (List ℕ)) (tick session : ℕ) (text : List ℕ) → is_open core.sessions session ≡ true → is_whole (with_line (waits_of waiting session) text) ≡ true →
    P (going_to tick ∷ sent session (with_line (waits_of waiting session) text) ∷ []) → P (events_of core waiting (Timed tick (Command session text)))
next_command P core waiting tick session text there whole h =
    let bytes : List ℕ = with_line (waits_of waiting session) text in
    subst (λ b. P (own tick session b (is_whole bytes) bytes)) (sym there)
    (subst (λ b. P (own tick session true b bytes)) (sym whole) h)

-- it completes none
pub next_none : (P : List Event → Type 0) (core : CoreState) (waiting : List (List ℕ)) (tick session : ℕ) (text : List ℕ) → is_open core.sessions session ≡ true → is_whole (with_line (waits_of waiting session) text) ≡ false →
    P [] → P (events_of core waiting (Timed tick (Command session text)))
next_none P core waiting tick session text there whole h =
    let bytes : List ℕ = with_line (waits_of waiting session) text in
    subst (λ b. P (own tick session b (is_whole bytes) bytes)) (sym there)
    (subst (λ b. P (own tick session true b bytes)) (sym whole) h)

-- The session isn't open, and the line completes a command.
pub first_command : (P : List Event → Type 0) (core : CoreState) (waiting : List (List ℕ)) (tick session : ℕ) (text : List ℕ) → is_open core.sessions session ≡ false → is_whole (with_line (waits_of waiting session) text) ≡ true →
    P (going_to tick ∷ events.OpenControl session ∷ sent session (with_line (waits_of waiting session) text) ∷ []) → P (events_of core waiting (Timed tick (Command session text)))
first_command P core waiting tick session text there whole h =
    let bytes : List ℕ = with_line (waits_of waiting session) text in
    subst (λ b. P (own tick session b (is_whole bytes) bytes)) (sym there)
    (subst (λ b. P (own tick session false b bytes)) (sym whole) h)

-- it completes none
pub first_none : (P : List Event → Type 0) (core : CoreState) (waiting : List (List ℕ)) (tick session : ℕ) (text : List ℕ) → is_open core.sessions session ≡ false → is_whole (with_line (waits_of waiting session) text) ≡ false →
    P (going_to tick ∷ events.OpenControl session ∷ []) → P (events_of core waiting (Timed tick (Command session text)))
first_none P core waiting tick session text there whole h =
    let bytes : List ℕ = with_line (waits_of waiting session) text in
    subst (λ b. P (own tick session b (is_whole bytes) bytes)) (sym there)
    (subst (λ b. P (own tick session false b bytes)) (sym whole) h)

-- A data session opens: one that is open closes before.
abbrev opening_of : (tick session : ℕ) (options : List ℕ) (there : Bool) → List Event
opening_of tick session options there =
    going_to tick ∷ (closed_for there session ++ events.OpenData session options ∷ [])

pub opened_again : (P : List Event → Type 0) (core : CoreState) (waiting : List (List ℕ)) (tick session : ℕ) (options : List ℕ) → is_reading core.acquisitions session ≡ true →
    P (going_to tick ∷ events.CloseData session ∷ events.OpenData session options ∷ []) → P (events_of core waiting (Timed tick (OpenData session options)))
opened_again P core waiting tick session options there h = subst (λ b. P (opening_of tick session options b)) (sym there) h

pub opened_new : (P : List Event → Type 0) (core : CoreState) (waiting : List (List ℕ)) (tick session : ℕ) (options : List ℕ) → is_reading core.acquisitions session ≡ false →
    P (going_to tick ∷ events.OpenData session options ∷ []) → P (events_of core waiting (Timed tick (OpenData session options)))
opened_new P core waiting tick session options there h = subst (λ b. P (opening_of tick session options b)) (sym there) h

-- The last event of a line is the only one that writes.
pub last_writes : (bytes p q : List ℕ) (end : Told) (old now : Option (List ℕ)) → PlaysOn bytes end p old q now → PlaysOn (bytes ++ []) end p old q now
last_writes bytes p q end old now h = subst (λ b. PlaysOn b end p old q now) (sym (append-nil bytes)) h

-- So of a line of a session that is open.

-- a session is open in a core where it is in what is kept of that
pub open_as : (state : CoreState) (kept : KeptCore) (session : ℕ) (there : Bool) → Agrees kept state → is_open kept.sessions session ≡ there → is_open state.sessions session ≡ there
open_as state kept session there agrees h = sym (open_same kept.sessions state.sessions session agrees.sessions) ∙ h

-- its command is written
pub next_plays : (state : CoreState) (kept : KeptCore) (waiting : List (List ℕ)) (tick session : ℕ) (text : List ℕ) (end : Told) (before p q : List ℕ) (old now : Option (List ℕ)) →
    Agrees kept state → is_open kept.sessions session ≡ true → is_whole (with_line (waits_of waiting session) text) ≡ true → p ≡ before →
    PlaysOn (written (after state (going_to tick)) (sent session (with_line (waits_of waiting session) text))) end p old q now →
    PlaysOn (sections state (events_of state waiting (Timed tick (Command session text)))) end before old q now
next_plays state kept waiting tick session text end before p q old now agrees there whole same h =
    let writes : List ℕ = written (after state (going_to tick)) (sent session (with_line (waits_of waiting session) text)) in
    next_command (λ all. PlaysOn (sections state all) end before old q now) state waiting tick session text (open_as state kept session true agrees there) whole
    (subst (λ b. PlaysOn (writes ++ []) end b old q now) same (last_writes writes p q end old now h))

-- and leaves this
pub next_leaves : (state : CoreState) (kept next : KeptCore) (waiting : List (List ℕ)) (tick session : ℕ) (text : List ℕ) →
    Agrees kept state → is_open kept.sessions session ≡ true → is_whole (with_line (waits_of waiting session) text) ≡ true →
    Agrees next (after (after state (going_to tick)) (sent session (with_line (waits_of waiting session) text))) →
    Agrees next (after_all state (events_of state waiting (Timed tick (Command session text))))
next_leaves state kept next waiting tick session text agrees there whole h =
    next_command (λ all. Agrees next (after_all state all)) state waiting tick session text (open_as state kept session true agrees there) whole h

-- a line that completes no command writes nothing
pub next_plays_none : (state : CoreState) (kept : KeptCore) (waiting : List (List ℕ)) (tick session : ℕ) (text before p : List ℕ) (old : Option (List ℕ)) →
    Agrees kept state → is_open kept.sessions session ≡ true → is_whole (with_line (waits_of waiting session) text) ≡ false → p ≡ before →
    PlaysOn (sections state (events_of state waiting (Timed tick (Command session text)))) ends.Ok before old p old
next_plays_none state kept waiting tick session text before p old agrees there none same =
    next_none (λ all. PlaysOn (sections state all) ends.Ok before old p old) state waiting tick session text (open_as state kept session true agrees there) none
    (subst (λ b. PlaysOn [] ends.Ok b old p old) same (plays_on_nothing p old))

-- and leaves the core
pub next_leaves_none : (state : CoreState) (kept : KeptCore) (waiting : List (List ℕ)) (tick session : ℕ) (text : List ℕ) →
    Agrees kept state → is_open kept.sessions session ≡ true → is_whole (with_line (waits_of waiting session) text) ≡ false →
    Agrees kept (after_all state (events_of state waiting (Timed tick (Command session text))))
next_leaves_none state kept waiting tick session text agrees there none =
    next_none (λ all. Agrees kept (after_all state all)) state waiting tick session text (open_as state kept session true agrees there) none agrees

-- And of one of a session that opens with it.

pub first_plays : (state : CoreState) (kept : KeptCore) (waiting : List (List ℕ)) (tick session : ℕ) (text : List ℕ) (end : Told) (before p q : List ℕ) (old now : Option (List ℕ)) →
    Agrees kept state → is_open kept.sessions session ≡ false → is_whole (with_line (waits_of waiting session) text) ≡ true → p ≡ before →
    PlaysOn (written (after (after state (going_to tick)) (events.OpenControl session)) (sent session (with_line (waits_of waiting session) text))) end p old q now →
    PlaysOn (sections state (events_of state waiting (Timed tick (Command session text)))) end before old q now
first_plays state kept waiting tick session text end before p q old now agrees there whole same h =
    let writes : List ℕ = written (after (after state (going_to tick)) (events.OpenControl session)) (sent session (with_line (waits_of waiting session) text)) in
    first_command (λ all. PlaysOn (sections state all) end before old q now) state waiting tick session text (open_as state kept session false agrees there) whole
    (subst (λ b. PlaysOn (writes ++ []) end b old q now) same (last_writes writes p q end old now h))

pub first_leaves : (state : CoreState) (kept next : KeptCore) (waiting : List (List ℕ)) (tick session : ℕ) (text : List ℕ) →
    Agrees kept state → is_open kept.sessions session ≡ false → is_whole (with_line (waits_of waiting session) text) ≡ true →
    Agrees next (after (after (after state (going_to tick)) (events.OpenControl session)) (sent session (with_line (waits_of waiting session) text))) →
    Agrees next (after_all state (events_of state waiting (Timed tick (Command session text))))
first_leaves state kept next waiting tick session text agrees there whole h =
    first_command (λ all. Agrees next (after_all state all)) state waiting tick session text (open_as state kept session false agrees there) whole h

pub first_plays_none : (state : CoreState) (kept : KeptCore) (waiting : List (List ℕ)) (tick session : ℕ) (text before p : List ℕ) (old : Option (List ℕ)) →
    Agrees kept state → is_open kept.sessions session ≡ false → is_whole (with_line (waits_of waiting session) text) ≡ false → p ≡ before →
    PlaysOn (sections state (events_of state waiting (Timed tick (Command session text)))) ends.Ok before old p old
first_plays_none state kept waiting tick session text before p old agrees there none same =
    first_none (λ all. PlaysOn (sections state all) ends.Ok before old p old) state waiting tick session text (open_as state kept session false agrees there) none
    (subst (λ b. PlaysOn [] ends.Ok b old p old) same (plays_on_nothing p old))

pub first_leaves_none : (state : CoreState) (kept next : KeptCore) (waiting : List (List ℕ)) (tick session : ℕ) (text : List ℕ) →
    Agrees kept state → is_open kept.sessions session ≡ false → is_whole (with_line (waits_of waiting session) text) ≡ false →
    Agrees next (after (after state (going_to tick)) (events.OpenControl session)) →
    Agrees next (after_all state (events_of state waiting (Timed tick (Command session text))))
first_leaves_none state kept next waiting tick session text agrees there none h =
    first_none (λ all. Agrees next (after_all state all)) state waiting tick session text (open_as state kept session false agrees there) none h

-- What is kept of the sessions stays the same, where something else happens.

pub fed_kept : (was next : List Kept) (waiting : List (List ℕ)) → next ≡ was → AreFed was waiting → AreFed next waiting
fed_kept was next waiting same h = subst (λ kept. AreFed kept waiting) (sym same) h

pub completed_kept : (was next : List Kept) (session : ℕ) (bytes : List ℕ) → next ≡ was → Completed (kept_of was session) bytes → Completed (kept_of next session) bytes
completed_kept was next session bytes same h = subst (λ kept. Completed (kept_of kept session) bytes) (sym same) h

pub whole_kept : (was next : List Kept) (session : ℕ) → next ≡ was → HasWhole (kept_of was session) → HasWhole (kept_of next session)
whole_kept was next session same h = subst (λ kept. HasWhole (kept_of kept session)) (sym same) h

-- where memory is wanting before anything is written
pub breaks_here : (bytes before p : List ℕ) (old : Option (List ℕ)) → PlaysOn bytes ends.OutOfMemory before old p old
breaks_here bytes before p old = front_none (before ++ bytes) old
