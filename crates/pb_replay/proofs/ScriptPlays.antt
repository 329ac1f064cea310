-- What is played of a script is its output.
use Rattle.std.proofs.Common.{◌≡◌, ℕ, ◌+◌, ◌*◌, ◌≤◌, List, [], length, map, Option, refl, sym, ap, subst, ◌∙◌, arith}
use Rattle.std.proofs.lemmas.List.{length-map}
use Rattle.pb_stim.specs.declared.Row.{Row}
use Rattle.pb_core.specs.declared.Event.{Event}
use Rattle.pb_core.specs.Answer.{CoreState, opening}
use Rattle.pb_replay.specs.declared.played.Played.{Played}
use Rattle.pb_replay.specs.declared.played.Played.TheVariants as ends
use Rattle.pb_replay.specs.Script.{Line}
use Rattle.pb_replay.specs.Kept.{Kept}
use Rattle.pb_replay.specs.Events.{events_from, nothing_waits}
use Rattle.pb_replay.specs.Counting.{IsCountedPart}
use Rattle.pb_replay.specs.Plays.{Plays, BreaksOff, Calls, kept_events}
use Rattle.pb_replay.specs.Tallies.{Spends}
use Rattle.pb_replay.proofs.PendingLemmas.{front_none}
use Rattle.pb_replay.proofs.CountingLemmas.{part_busy}

-- the rows are those of the script, and the lines too
of_script : (P : CoreState → List Event → Type 0) (script : Kept) (rows : List Row) (lines : List Line) → rows ≡ script.rows → lines ≡ script.lines →
    P (opening rows) (events_from (opening rows) nothing_waits lines) → P (opening script.rows) (kept_events script)
of_script P script rows lines same all h =
    subst (λ l. P (opening script.rows) (events_from (opening script.rows) nothing_waits l)) all
    (subst (λ r. P (opening r) (events_from (opening r) nothing_waits lines)) same h)

pub script_plays : (script : Kept) (rows : List Row) (lines : List Line) (end : Played) (old now : Option (List ℕ)) → rows ≡ script.rows → lines ≡ script.lines →
    Plays (opening rows) (events_from (opening rows) nothing_waits lines) end old now → Plays (opening script.rows) (kept_events script) end old now
script_plays script rows lines end old now same all h = of_script (λ core happening. Plays core happening end old now) script rows lines same all h

-- nothing is played where memory is wanting at first
pub none_played : (core : CoreState) (happening : List Event) (old : Option (List ℕ)) → Plays core happening ends.OutOfMemory old old
none_played core happening old = ([], happening, refl, (0, 0, (refl, refl), omega arith), front_none [] old)

-- What it cost.

calls_of : (rows : List Row) (happening : List Event) (lines old new : ℕ) → Spends (opening rows) happening lines old new → Calls (opening rows) happening lines old new
calls_of rows happening lines old new s =
    let few : s.busy ≤ 35 * s.eventful = part_busy happening rows s.eventful s.busy s.part in
    record {
      eventful = s.eventful;
      busy = s.busy;
      part = s.part;
      by_pairs = omega (arith, s.calls);
      by_ticks = omega (arith, s.calls, few);
    }

pub script_calls : (script : Kept) (rows : List Row) (lines : List Line) (many was due spent : ℕ) → rows ≡ script.rows → lines ≡ script.lines → many ≡ length lines → due ≡ 0 →
    Spends (opening rows) (events_from (opening rows) nothing_waits lines) many (was + due) spent → Calls (opening script.rows) (kept_events script) (length script.lines) was spent
script_calls script rows lines many was due spent same all count none s =
    let all_lines : many ≡ length script.lines = count ∙ ap length all in
    let start : was + due ≡ was = omega (arith, none) in
    subst (λ n. Calls (opening script.rows) (kept_events script) n was spent) all_lines
    (subst (λ n. Calls (opening script.rows) (kept_events script) many n spent) start
    (of_script (λ core happening. Calls core happening many (was + due) spent) script rows lines same all (calls_of rows _ many (was + due) spent s)))

pub none_spent : (core : CoreState) (happening : List Event) (lines steps : ℕ) → Calls core happening lines steps steps
none_spent core happening lines steps =
    record {
      eventful = 0;
      busy = 0;
      part = record {
        front = [];
        rest = happening;
        split = refl;
        early = 0;
        work = 0;
        counted = (refl, refl);
        ticks = 0;
        within = omega arith;
        late = 0;
        more = 0;
        run = (refl, refl);
        all_eventful = refl;
        all_busy = refl;
      };
      by_pairs = omega arith;
      by_ticks = omega arith;
    }

-- a line for each step
pub as_many : {S : Type 0} (f : S → Line) (steps : List S) → length steps ≡ length (map f steps)
as_many f steps = sym (length-map steps f)
