-- A step of a script as the line that it is, and what is said of that line.
use Rattle.std.proofs.Common.{◌≡◌, ◌≢◌, ◌≤◌, ℕ, List, [], ◌++◌, Option, refl, sym, ap, subst, ◌∙◌}
use Rattle.pb_grammar.specs.Feeding.{Kept}
use Rattle.pb_core.specs.Answer.{CoreState, after_all}
use Rattle.pb_core.specs.Kept.{KeptCore, Agrees}
use Rattle.pb_replay.specs.declared.scripts.Span.{Span}
use Rattle.pb_replay.specs.declared.scripts.Act.{Act}
use Rattle.pb_replay.specs.declared.scripts.Act.TheVariants as acts
use Rattle.pb_replay.specs.declared.scripts.Step.{Step}
use Rattle.pb_replay.specs.declared.played.Played.{Played}
use Rattle.pb_replay.specs.declared.played.Played.TheVariants as ends
use Rattle.pb_replay.specs.Script.{Line, Timed, Command, CloseControl, OpenData, Take, CloseData, End}
use Rattle.pb_grammar.specs.Grammar.{IsText}
use Rattle.pb_core.specs.Sessions.{IsSession}
use Rattle.pb_replay.specs.Steps.{text_at, act_deed, step_line, session_of, place_of_text, IsSpan, IsStep}
use Rattle.pb_replay.specs.Events.{events_of, waits_after}
use Rattle.pb_replay.specs.Output.{sections}
use Rattle.pb_replay.specs.Pending.{PlaysLine, IsSilent}
use Rattle.pb_replay.specs.Tallies.{Tally, Went}
use Rattle.pb_replay.specs.Waiting.{AreFed}
use Rattle.pb_replay.proofs.PendingLemmas.{plays_on_nothing, front_none}
use Rattle.pb_replay.proofs.TallyLemmas.{told_silent}

-- The line of a step, by its act.

pub is_command : (bytes : List ℕ) (moment : Step) (session : ℕ) (span : Span) (text : List ℕ) → moment.act ≡ acts.Command session span → text ≡ text_at bytes span → step_line bytes moment ≡ Timed moment.tick (Command session text)
is_command bytes moment session span text e same =
    ap (λ act. Timed moment.tick (act_deed bytes act)) e ∙ ap (λ t. Timed moment.tick (Command session t)) (sym same)

pub is_close_control : (bytes : List ℕ) (moment : Step) (session : ℕ) → moment.act ≡ acts.CloseControl session → step_line bytes moment ≡ Timed moment.tick (CloseControl session)
is_close_control bytes moment session e = ap (λ act. Timed moment.tick (act_deed bytes act)) e

pub is_open_data : (bytes : List ℕ) (moment : Step) (session : ℕ) (span : Span) (text : List ℕ) → moment.act ≡ acts.OpenData session span → text ≡ text_at bytes span → step_line bytes moment ≡ Timed moment.tick (OpenData session text)
is_open_data bytes moment session span text e same =
    ap (λ act. Timed moment.tick (act_deed bytes act)) e ∙ ap (λ t. Timed moment.tick (OpenData session t)) (sym same)

pub is_take : (bytes : List ℕ) (moment : Step) (session : ℕ) → moment.act ≡ acts.Take session → step_line bytes moment ≡ Timed moment.tick (Take session)
is_take bytes moment session e = ap (λ act. Timed moment.tick (act_deed bytes act)) e

pub is_close_data : (bytes : List ℕ) (moment : Step) (session : ℕ) → moment.act ≡ acts.CloseData session → step_line bytes moment ≡ Timed moment.tick (CloseData session)
is_close_data bytes moment session e = ap (λ act. Timed moment.tick (act_deed bytes act)) e

pub is_end : (bytes : List ℕ) (moment : Step) → moment.act ≡ acts.End → step_line bytes moment ≡ Timed moment.tick End
is_end bytes moment e = ap (λ act. Timed moment.tick (act_deed bytes act)) e

-- What is said of the line is said of the step.

pub step_plays : (line same : Line) (state : CoreState) (waiting : List (List ℕ)) (end : Played) (before p : List ℕ) (old now : Option (List ℕ)) → line ≡ same →
    PlaysLine (sections state (events_of state waiting same)) end before old p now → PlaysLine (sections state (events_of state waiting line)) end before old p now
step_plays line same state waiting end before p old now e h = subst (λ l. PlaysLine (sections state (events_of state waiting l)) end before old p now) (sym e) h

pub step_leaves : (line same : Line) (state : CoreState) (kept : KeptCore) (waiting : List (List ℕ)) → line ≡ same →
    Agrees kept (after_all state (events_of state waiting same)) → Agrees kept (after_all state (events_of state waiting line))
step_leaves line same state kept waiting e h = subst (λ l. Agrees kept (after_all state (events_of state waiting l))) (sym e) h

pub step_feeds : (line same : Line) (kept : List Kept) (waiting : List (List ℕ)) → line ≡ same → AreFed kept (waits_after waiting same) → AreFed kept (waits_after waiting line)
step_feeds line same kept waiting e h = subst (λ l. AreFed kept (waits_after waiting l)) (sym e) h

-- a line of which no other session hears, where what is kept of the sessions stays the same
pub step_waits : (line same : Line) (was next : List Kept) (waiting : List (List ℕ)) → line ≡ same → waits_after waiting same ≡ waiting → next ≡ was → AreFed was waiting → AreFed next (waits_after waiting line)
step_waits line same was next waiting e none kept h =
    subst (λ l. AreFed next (waits_after waiting l)) (sym e) (subst (λ w. AreFed next w) (sym none) (subst (λ k. AreFed k waiting) (sym kept) h))

-- nothing is written: all is done, memory was wanting, or the limit came
pub quiet_plays : (end : Played) (before p : List ℕ) (old : Option (List ℕ)) → ¬ (end ≡ ends.WriteFault) → p ≡ before → PlaysLine [] end before old p old
quiet_plays ends.Ok before p old other same = subst (λ b. PlaysLine [] ends.Ok b old p old) same (plays_on_nothing p old)
quiet_plays ends.WriteFault before p old other same = absurd (other refl)
quiet_plays ends.OutOfMemory before p old other same = front_none (before ++ []) old
quiet_plays (ends.EventLimit tick) before p old other same = tt

-- what is counted of the line is of the step
pub step_went : (line same : Line) (state : CoreState) (waiting : List (List ℕ)) (room : ℕ) (Silent : Type 0) (end : Played) (t0 t1 : Tally) → line ≡ same →
    Went room Silent end state (events_of state waiting same) t0 t1 → Went room Silent end state (events_of state waiting line) t0 t1
step_went line same state waiting room Silent end t0 t1 e h = subst (λ l. Went room Silent end state (events_of state waiting l) t0 t1) (sym e) h

-- where nothing is written, it is silent
pub step_silent : (line same : Line) (state : CoreState) (waiting : List (List ℕ)) (room : ℕ) (before p : List ℕ) (old : Option (List ℕ)) (end : Played) (t0 t1 : Tally) → line ≡ same → p ≡ before →
    Went room (Unit {0}) end state (events_of state waiting same) t0 t1 → Went room (IsSilent before old p old) end state (events_of state waiting line) t0 t1
step_silent line same state waiting room before p old end t0 t1 e silent h =
    step_went line same state waiting room (IsSilent before old p old) end t0 t1 e (told_silent room (IsSilent before old p old) end state (events_of state waiting same) t0 t1 (silent, refl) h)

-- What a step has to keep, by its act.

pub step_session : (bytes : List ℕ) (moment : Step) (act : Act) → moment.act ≡ act → IsStep bytes moment → IsSession (session_of act)
step_session bytes moment act e h =
    record {
      from_one = subst (λ a. 1 ≤ session_of a) e h.1.0;
      in_count = subst (λ a. session_of a ≤ 8) e h.1.1;
    }

pub step_span : (bytes : List ℕ) (moment : Step) (act : Act) → moment.act ≡ act → IsStep bytes moment → IsSpan bytes (place_of_text act)
step_span bytes moment act e h = subst (λ a. IsSpan bytes (place_of_text a)) e h.2

pub span_text : (bytes : List ℕ) (span : Span) (text : List ℕ) → IsSpan bytes span → text ≡ text_at bytes span → IsText text
span_text bytes span text h e = subst IsText (sym e) h.2
