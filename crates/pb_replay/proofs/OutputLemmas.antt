-- The lines that are played have the events of all lines.
use Rattle.std.proofs.Common.{◌≡◌, ℕ, List, [], ◌∷◌, ◌++◌, length, Option, refl, ap, subst, if◌then◌else◌}
use Rattle.std.specs.List.{flat_map}
use Rattle.pb_core.specs.declared.Event.{Event}
use Rattle.pb_core.specs.Answer.{CoreState, opening, after_all}
use Rattle.pb_replay.specs.Script.{Line, Skipped, Timed, Level, Command, CloseControl, OpenData, Take, CloseData, End}
use Rattle.pb_replay.specs.Kept.{Kept, kept, played_of}
use Rattle.pb_replay.specs.Events.{events_of, events_from, waits_after, nothing_waits, first_core, is_last, events_of_script}
use Rattle.pb_replay.specs.Plays.{kept_events, Plays, Calls, PlaysKept, CallsKept}
use Rattle.pb_replay.specs.declared.played.Played.{Played}

-- a line that is played, before lines that have the same events
one_more : (line : Line) (played lines : List Line) (core : CoreState) (waiting : List (List ℕ)) →
    ((c : CoreState) (w : List (List ℕ)) → events_from c w played ≡ events_from c w lines) → events_from core waiting (line ∷ played) ≡ events_from core waiting (line ∷ lines)
one_more line played lines core waiting h =
    ap (λ more. events_of core waiting line ++ (if is_last line then [] else more))
    (h (after_all core (events_of core waiting line)) (waits_after waiting line))

pub played_alone : (lines : List Line) (core : CoreState) (waiting : List (List ℕ)) → events_from core waiting (flat_map played_of lines) ≡ events_from core waiting lines
played_alone [] core waiting = refl
played_alone (Skipped ∷ lines) core waiting = played_alone lines core waiting
played_alone (Timed tick (Level target value) ∷ lines) core waiting = played_alone lines core waiting
played_alone (Timed tick (Command session text) ∷ lines) core waiting =
    one_more (Timed tick (Command session text)) (flat_map played_of lines) lines core waiting (λ c w. played_alone lines c w)
played_alone (Timed tick (CloseControl session) ∷ lines) core waiting =
    one_more (Timed tick (CloseControl session)) (flat_map played_of lines) lines core waiting (λ c w. played_alone lines c w)
played_alone (Timed tick (OpenData session options) ∷ lines) core waiting =
    one_more (Timed tick (OpenData session options)) (flat_map played_of lines) lines core waiting (λ c w. played_alone lines c w)
played_alone (Timed tick (Take session) ∷ lines) core waiting =
    one_more (Timed tick (Take session)) (flat_map played_of lines) lines core waiting (λ c w. played_alone lines c w)
played_alone (Timed tick (CloseData session) ∷ lines) core waiting =
    one_more (Timed tick (CloseData session)) (flat_map played_of lines) lines core waiting (λ c w. played_alone lines c w)
played_alone (Timed tick End ∷ lines) core waiting =
    one_more (Timed tick End) (flat_map played_of lines) lines core waiting (λ c w. played_alone lines c w)

-- so what is kept of a script has its events
pub same_events : (lines : List Line) → kept_events (kept lines) ≡ events_of_script lines
same_events lines = played_alone lines (first_core lines) nothing_waits

-- and what is said of these is said of the script
of_lines : (P : CoreState → List Event → Type 0) (script : Kept) (lines : List Line) → script ≡ kept lines → P (opening script.rows) (kept_events script) →
    P (first_core lines) (events_of_script lines)
of_lines P script lines is h =
    subst (λ happening. P (first_core lines) happening) (same_events lines) (subst (λ s. P (opening s.rows) (kept_events s)) is h)

pub plays_lines : (script : Kept) (lines : List Line) (end : Played) (old now : Option (List ℕ)) → script ≡ kept lines → PlaysKept script end old now →
    Plays (first_core lines) (events_of_script lines) end old now
plays_lines script lines end old now is h = of_lines (λ core happening. Plays core happening end old now) script lines is h

pub calls_lines : (script : Kept) (lines : List Line) (old new : ℕ) → script ≡ kept lines → CallsKept script old new →
    Calls (first_core lines) (events_of_script lines) (length (flat_map played_of lines)) old new
calls_lines script lines old new is h =
    let many : length script.lines ≡ length (flat_map played_of lines) = ap (λ (s : Kept). length s.lines) is in
    subst (λ n. Calls (first_core lines) (events_of_script lines) n old new) many
    (of_lines (λ core happening. Calls core happening (length script.lines) old new) script lines is h)
