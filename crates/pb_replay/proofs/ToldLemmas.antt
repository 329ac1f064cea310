-- What the core answers to the events of a script, where it says so.
use Rattle.std.proofs.Common.{◌≡◌, ℕ, ◌-◌, ◌≤◌, ◌^◌, max, List, [], true, Option, Some, Result, Ok, Err, IfOk, OnOk, is_ok, sym, ap, subst, ◌∙◌, arith}
use Rattle.std.specs.Option.{option_map_or}
use Rattle.pb_core.specs.declared.Event.{Event}
use Rattle.pb_core.specs.declared.Event.TheVariants as events
use Rattle.pb_core.specs.declared.Answer.{Answer}
use Rattle.pb_core.specs.declared.Answer.TheVariants as answers
use Rattle.pb_going.specs.declared.Why.TheVariants as whys
use Rattle.pb_model.specs.Tick.{Standing}
use Rattle.pb_core.specs.Answer.{CoreState, ticks_of_core, answer, after, advanced, Reaches, IsTold, after_told, bytes_of}
use Rattle.pb_core.proofs.RunLemmas.{ticks_on}
use Rattle.pb_core.specs.Kept.{KeptCore, Agrees}
use Rattle.pb_replay.specs.Events.{going_to}
use Rattle.pb_replay.specs.declared.played.Told.{Told}
use Rattle.pb_replay.specs.Output.{Receiver, receiver_of, section, written}
use Rattle.pb_replay.specs.Pending.{IsQuiet, IsAnswered, PlaysOn}

-- an event of which a session is told has one answer
told_once : (state : CoreState) (event : Event) (told : Answer) → IsAnswered event → IsTold state event told → told ≡ answer state event
told_once state (events.Line id text) told e h = h
told_once state (events.Bad id refusal) told e h = h
told_once state (events.OpenData id options) told e h = h
told_once state (events.Take id) told e h = h
told_once state event told e h = absurd e

-- and leaves one core
left_once : (state : CoreState) (kept : KeptCore) (event : Event) (told : Answer) → IsAnswered event →
    Agrees kept (after_told state event told) → Agrees kept (after state event)
left_once state kept (events.Line id text) told e h = h
left_once state kept (events.Bad id refusal) told e h = h
left_once state kept (events.OpenData id options) told e h = h
left_once state kept (events.Take id) told e h = h
left_once state kept event told e h = absurd e

-- and so of a result

pub told_ok : {E : Type 0} (state : CoreState) (event : Event) (r : Result Answer E) → IsAnswered event → IfOk r (IsTold state event) → IfOk r (λ told. told ≡ answer state event)
told_ok state event (Ok told) e h = told_once state event told e h
told_ok state event (Err error) e h = h

pub left_ok : {E : Type 0} (state : CoreState) (kept : KeptCore) (event : Event) (r : Result Answer E) → IsAnswered event →
    IfOk r (λ told. Agrees kept (after_told state event told)) → OnOk r (Agrees kept (after state event))
left_ok state kept event (Ok told) e h = left_once state kept event told e h
left_ok state kept event (Err error) e h = h

-- an event of which no session is told leaves one core too
pub left_quiet : (state : CoreState) (kept : KeptCore) (event : Event) (told : Answer) → IsQuiet event →
    Agrees kept (after_told state event told) → Agrees kept (after state event)
left_quiet state kept (events.OpenControl id) told e h = h
left_quiet state kept (events.CloseControl id) told e h = h
left_quiet state kept (events.CloseData id) told e h = h
left_quiet state kept event told e h = absurd e

-- who is told is told of an event
pub is_answered : (event : Event) (to : Receiver) → receiver_of event ≡ Some to → IsAnswered event
is_answered (events.Line id text) to e = tt
is_answered (events.Bad id refusal) to e = tt
is_answered (events.OpenData id options) to e = tt
is_answered (events.Take id) to e = tt
is_answered event to e = cc

-- What is written for an event of which a session is told.

written_to : (state : CoreState) (event : Event) (to : Option Receiver) (one : Receiver) → to ≡ Some one →
    option_map_or (λ r. section state.box.stands.tick r.port r.session (bytes_of (answer state event))) to [] ≡ section state.box.stands.tick one.port one.session (bytes_of (answer state event))
written_to state event to one e = ap (λ r. option_map_or (λ r. section state.box.stands.tick r.port r.session (bytes_of (answer state event))) r []) e

pub written_is : (state : CoreState) (kept : KeptCore) (event : Event) (to : Receiver) (tick : ℕ) (told : Answer) (bytes : List ℕ) →
    Agrees kept state → tick ≡ kept.sim.tick → receiver_of event ≡ Some to → told ≡ answer state event → bytes ≡ bytes_of told → section tick to.port to.session bytes ≡ written state event
written_is state kept event to tick told bytes agrees now e one same =
    ap (λ t. section t to.port to.session bytes) (now ∙ ap (λ s. s.tick) agrees.run.box.stands)
    ∙ (ap (λ b. section state.box.stands.tick to.port to.session b) (same ∙ ap bytes_of one)
    ∙ sym (written_to state event (receiver_of event) to e))

pub told_plays : (bytes same : List ℕ) (end : Told) (before p q : List ℕ) (old now : Option (List ℕ)) → bytes ≡ same → p ≡ before → PlaysOn bytes end p old q now → PlaysOn same end before old q now
told_plays bytes same end before p q old now e k h = subst (λ b. PlaysOn b end before old q now) e (subst (λ b. PlaysOn bytes end b old q now) k h)

-- So of an event that is another one.

pub same_plays : (state : CoreState) (event other : Event) (end : Told) (before p : List ℕ) (old now : Option (List ℕ)) → event ≡ other →
    PlaysOn (written state event) end before old p now → PlaysOn (written state other) end before old p now
same_plays state event other end before p old now e h = subst (λ x. PlaysOn (written state x) end before old p now) e h

pub same_leaves : (state : CoreState) (event other : Event) (kept : KeptCore) → event ≡ other → Agrees kept (after state event) → Agrees kept (after state other)
same_leaves state event other kept e h = subst (λ x. Agrees kept (after state x)) e h
