-- What is counted of parts of a line, and of the whole.
use Rattle.std.proofs.Common.{◌≡◌, ◌≢◌, ℕ, zero, suc, ◌+◌, ◌*◌, ◌<◌, ◌≤◌, Bool, true, false, List, [], ◌∷◌, ◌++◌, Option, Some, Result, Ok, Err, refl, sym, ap, subst, inl, inr, ◌∙◌, arith, if◌then◌else◌}
use Rattle.std.proofs.lemmas.List.{append-nil}
use Rattle.pb_grammar.specs.Grammar.{Said, Query, Assign, Table, Echo, Bad, command_of}
use Rattle.pb_going.specs.Sims.{outdated}
use Rattle.pb_core.specs.declared.Event.{Event}
use Rattle.pb_core.specs.declared.Event.TheVariants as events
use Rattle.pb_core.specs.Kept.{KeptCore}
use Rattle.pb_core.specs.Costs.{Costs, CostsLittle, CostsNothing}
use Rattle.pb_core.specs.Answer.{CoreState, answer, after, after_all}
use Rattle.pb_core.specs.Sessions.{is_open, is_reading}
use Rattle.pb_replay.specs.declared.played.Told.{Told}
use Rattle.pb_replay.specs.declared.played.Told.TheVariants as ends
use Rattle.pb_replay.specs.declared.played.Played.{Played}
use Rattle.pb_replay.specs.declared.played.Played.TheVariants as plays
use Rattle.pb_replay.specs.Events.{going_to, at_tick, opened_for, closed_for, waits_of, with_line, is_whole, events_of, sent, sent_as, is_piece, takes_up_to, most_takes, takes_of, takes_of_all}
use Rattle.pb_replay.specs.Script.{Timed, Command}
use Rattle.pb_replay.specs.Pending.{played_of, IsQuiet, IsAnswered}
use Rattle.pb_replay.specs.Counting.{ticks_of, limit, Counted}
use Rattle.pb_replay.specs.Tallies.{Tally, tally, AddsTicks, AddsCalls, WentAll, WentSome, WentTo, Went}
use Rattle.pb_replay.proofs.CountingLemmas.{MakeNone, none_append, counted_append, counted_none, part_longer}

-- Calls alone.

pub calls_none : (t : Tally) → AddsCalls 0 t t
calls_none t = record { ticks = refl; calls = omega arith }

pub calls_twice : (a b c : ℕ) (t0 t1 t2 : Tally) → c ≡ a + b → AddsCalls a t0 t1 → AddsCalls b t1 t2 → AddsCalls c t0 t2
calls_twice a b c t0 t1 t2 e h g = record { ticks = g.ticks ∙ h.ticks; calls = omega (arith, e, h.calls, g.calls) }

pub calls_room : (a b : ℕ) (t0 t1 : Tally) → a ≤ b → AddsCalls a t0 t1 → AddsCalls b t0 t1
calls_room a b t0 t1 e h = record { ticks = h.ticks; calls = omega (arith, e, h.calls) }

-- what an event other than an advance costs
pub quiet_calls : (core : CoreState) (event : Event) (old new : KeptCore) (eventful was spent : ℕ) → IsQuiet event → Costs event core old new was spent →
    AddsCalls 0 (tally old eventful was) (tally new eventful spent)
quiet_calls core (events.OpenControl id) old new eventful was spent q h = record { ticks = refl; calls = omega (arith, h.calls, h.outdates) }
quiet_calls core (events.CloseControl id) old new eventful was spent q h = record { ticks = refl; calls = omega (arith, h.calls, h.outdates) }
quiet_calls core (events.CloseData id) old new eventful was spent q h = record { ticks = refl; calls = omega (arith, h.calls, h.outdates) }
quiet_calls core event old new eventful was spent q h = absurd q

pub answered_costs : (core : CoreState) (event : Event) (old new : KeptCore) (was spent : ℕ) → IsAnswered event → Costs event core old new was spent →
    CostsLittle event old new was spent
answered_costs core (events.Line id text) old new was spent q h = h
answered_costs core (events.Bad id refusal) old new was spent q h = h
answered_costs core (events.OpenData id options) old new was spent q h = h
answered_costs core (events.Take id) old new was spent q h = h
answered_costs core event old new was spent q h = absurd q

pub answered_calls : (event : Event) (old new : KeptCore) (eventful was spent : ℕ) → IsAnswered event → CostsLittle event old new was spent →
    AddsCalls 21 (tally old eventful was) (tally new eventful spent)
answered_calls (events.Line id text) old new eventful was spent q h = record { ticks = refl; calls = omega (arith, h.calls, h.outdates) }
answered_calls (events.Bad id refusal) old new eventful was spent q h = record { ticks = refl; calls = omega (arith, h.calls, h.outdates) }
answered_calls (events.OpenData id options) old new eventful was spent q h = record { ticks = refl; calls = omega (arith, h.calls, h.outdates) }
answered_calls (events.Take id) old new eventful was spent q h = record { ticks = refl; calls = omega (arith, h.calls, h.outdates) }
answered_calls event old new eventful was spent q h = absurd q

pub take_calls : (old new : KeptCore) (eventful was spent : ℕ) → CostsNothing old new was spent → AddsCalls 0 (tally old eventful was) (tally new eventful spent)
take_calls old new eventful was spent h = record { ticks = refl; calls = omega (arith, h.calls, h.outdates) }

-- the core is the same afterwards
pub calls_same : (room : ℕ) (t : Tally) (new next : KeptCore) (eventful more spent : ℕ) → next ≡ new → more ≡ eventful → AddsCalls room t (tally new eventful spent) →
    AddsCalls room t (tally next more spent)
calls_same room t new next eventful more spent same count h =
    subst (λ n. AddsCalls room t (tally next n spent)) (sym count) (subst (λ k. AddsCalls room t (tally k eventful spent)) (sym same) h)

-- Events that make no tick.

sent_none : (session : ℕ) (bytes : List ℕ) (said : Said) (core : CoreState) → ticks_of core (sent_as session bytes said) ≡ 0
sent_none session bytes (Query target) core = refl
sent_none session bytes (Assign target value) core = refl
sent_none session bytes (Table target append base64 body) core = refl
sent_none session bytes (Echo text) core = refl
sent_none session bytes (Bad refusal) core = refl

pub quiet_makes_none : (event : Event) → IsQuiet event → MakeNone (event ∷ [])
quiet_makes_none (events.OpenControl id) q = (λ core. refl, tt)
quiet_makes_none (events.CloseControl id) q = (λ core. refl, tt)
quiet_makes_none (events.CloseData id) q = (λ core. refl, tt)
quiet_makes_none event q = absurd q

pub opening_makes_none : (there : Bool) (session : ℕ) (options : List ℕ) → MakeNone (closed_for there session ++ events.OpenData session options ∷ [])
opening_makes_none true session options = (λ core. refl, (λ core. refl, tt))
opening_makes_none false session options = (λ core. refl, tt)

pub sent_makes_none : (session : ℕ) (bytes : List ℕ) → MakeNone (sent session bytes ∷ [])
sent_makes_none session bytes = (λ core. sent_none session bytes (command_of bytes) core, tt)

-- they go on, or not
either_makes_none : (b : Bool) (more : List Event) → MakeNone more → MakeNone (if b then more else [])
either_makes_none true more h = h
either_makes_none false more h = tt

takes_make_none : (n : ℕ) (core : CoreState) (session : ℕ) → MakeNone (takes_up_to n core session)
takes_make_none zero core session = tt
takes_make_none (suc n) core session = (
  λ c. refl,
  either_makes_none (is_piece (answer core (events.Take session))) (takes_up_to n (after core (events.Take session)) session)
      (takes_make_none n (after core (events.Take session)) session),
)

reads_make_none : (core : CoreState) (session : ℕ) → MakeNone (takes_of core session)
reads_make_none core session =
    either_makes_none (is_reading core.acquisitions session) (takes_up_to most_takes core session) (takes_make_none most_takes core session)

pub all_make_none : (sessions : List ℕ) (core : CoreState) → MakeNone (takes_of_all core sessions)
all_make_none [] core = tt
all_make_none (session ∷ sessions) core =
    none_append (takes_of core session) (takes_of_all (after_all core (takes_of core session)) sessions)
    (reads_make_none core session) (all_make_none sessions (after_all core (takes_of core session)))

-- A part that happened, and events that make no tick.

module _ (room : ℕ) (Silent : Type 0) (core : CoreState) (happening more : List Event) (t0 t1 t2 : Tally) (none : MakeNone more)
    (w : WentAll 0 core happening t0 t1) (calls : AddsCalls room t1 t2) where
  all_more : WentAll room core (happening ++ more) t0 t2
  all_more =
      let x : w.eventful + 0 ≡ w.eventful = omega arith in
      let y : w.busy + 0 ≡ w.busy = omega arith in
      record {
        eventful = w.eventful;
        busy = w.busy;
        counted = subst (λ n. Counted core (happening ++ more) n w.busy) x (subst (λ n. Counted core (happening ++ more) (w.eventful + 0) n) y
            (counted_append happening more core w.eventful w.busy 0 0 w.counted (counted_none more (after_all core happening) none)));
        adds = record {
          ticks = calls.ticks ∙ w.adds.ticks;
          few = omega (arith, calls.ticks, w.adds.few);
          calls = omega (arith, calls.calls, w.adds.calls);
        };
      }

  more_by : (told : Told) → Went room Silent (played_of told) core (happening ++ more) t0 t2
  more_by ends.Ok = all_more
  more_by ends.WriteFault = all_more
  more_by ends.OutOfMemory = inl all_more

-- however telling of these ends
pub went_more : (room : ℕ) (Silent : Type 0) (told : Told) (end : Played) (core : CoreState) (happening more : List Event) (t0 t1 t2 : Tally) → end ≡ played_of told → MakeNone more →
    WentAll 0 core happening t0 t1 → AddsCalls room t1 t2 → Went room Silent end core (happening ++ more) t0 t2
went_more room Silent told end core happening more t0 t1 t2 is none w calls =
    subst (λ e. Went room Silent e core (happening ++ more) t0 t2) (sym is) (more_by room Silent core happening more t0 t1 t2 none w calls told)

-- A part that ended it.

adds_room : (eventful busy room : ℕ) (t0 t1 : Tally) → AddsTicks eventful busy 0 t0 t1 → AddsTicks eventful busy room t0 t1
adds_room eventful busy room t0 t1 h = record { ticks = h.ticks; few = h.few; calls = omega (arith, h.calls) }

pub went_stops : (room : ℕ) (Silent : Type 0) (end : Played) (core : CoreState) (happening more : List Event) (t0 t1 : Tally) → end ≢ plays.Ok → ¬ (end ≡ plays.WriteFault) → Silent → MakeNone more →
    Went 0 (Unit {0}) end core happening t0 t1 → Went room Silent end core (happening ++ more) t0 t1
went_stops room Silent plays.Ok core happening more t0 t1 other known silent none h = absurd (other refl)
went_stops room Silent plays.WriteFault core happening more t0 t1 other known silent none h = absurd (known refl)
went_stops room Silent plays.OutOfMemory core happening more t0 t1 other known silent none (inl w) =
    inl (all_more room Silent core happening more t0 t1 t1 none w (calls_room 0 room t1 t1 (omega arith) (calls_none t1)))
went_stops room Silent plays.OutOfMemory core happening more t0 t1 other known silent none (inr h) =
    inr (
      record {
        eventful = h.0.eventful;
        busy = h.0.busy;
        part = part_longer core happening more h.0.eventful h.0.busy h.0.part;
        adds = adds_room h.0.eventful h.0.busy room t0 t1 h.0.adds;
      },
      silent,
    )
went_stops room Silent (plays.EventLimit tick) core happening more t0 t1 other known silent none h = (
  record {
    to = h.0.to;
    rest = h.0.rest ++ more;
    split = ap (λ x. x ++ more) h.0.split;
    from_now = h.0.from_now;
    below = h.0.below;
    eventful = h.0.eventful;
    busy = h.0.busy;
    run = h.0.run;
    next = h.0.next;
    adds = adds_room h.0.eventful h.0.busy room t0 t1 h.0.adds;
    last = h.0.last;
  },
  silent,
)

pub all_room : (room : ℕ) (core : CoreState) (happening : List Event) (t0 t1 : Tally) → WentAll 0 core happening t0 t1 → WentAll room core happening t0 t1
all_room room core happening t0 t1 w =
    record { eventful = w.eventful; busy = w.busy; counted = w.counted; adds = adds_room w.eventful w.busy room t0 t1 w.adds }

-- nothing happened
pub went_none : (room : ℕ) (core : CoreState) (t : Tally) → t.eventful < limit → WentAll room core [] t t
went_none room core t few =
    record {
      eventful = 0;
      busy = 0;
      counted = (refl, refl);
      adds = record { ticks = omega arith; few = few; calls = omega arith };
    }

-- more room
pub went_room : (room : ℕ) (Silent : Type 0) (end : Played) (core : CoreState) (happening : List Event) (t0 t1 : Tally) →
    Went 0 Silent end core happening t0 t1 → Went room Silent end core happening t0 t1
went_room room Silent plays.Ok core happening t0 t1 w = all_room room core happening t0 t1 w
went_room room Silent plays.WriteFault core happening t0 t1 w = all_room room core happening t0 t1 w
went_room room Silent plays.OutOfMemory core happening t0 t1 (inl w) = inl (all_room room core happening t0 t1 w)
went_room room Silent plays.OutOfMemory core happening t0 t1 (inr w) =
    inr (record { eventful = w.0.eventful; busy = w.0.busy; part = w.0.part; adds = adds_room w.0.eventful w.0.busy room t0 t1 w.0.adds }, w.1)
went_room room Silent (plays.EventLimit tick) core happening t0 t1 w = (
  record {
    to = w.0.to;
    rest = w.0.rest;
    split = w.0.split;
    from_now = w.0.from_now;
    below = w.0.below;
    eventful = w.0.eventful;
    busy = w.0.busy;
    run = w.0.run;
    next = w.0.next;
    adds = adds_room w.0.eventful w.0.busy room t0 t1 w.0.adds;
    last = w.0.last;
  },
  w.1,
)

-- where nothing was written, that may be said
pub told_silent : (room : ℕ) (Silent : Type 0) (end : Played) (core : CoreState) (happening : List Event) (t0 t1 : Tally) → Silent →
    Went room (Unit {0}) end core happening t0 t1 → Went room Silent end core happening t0 t1
told_silent room Silent plays.Ok core happening t0 t1 silent w = w
told_silent room Silent plays.WriteFault core happening t0 t1 silent w = w
told_silent room Silent plays.OutOfMemory core happening t0 t1 silent (inl w) = inl w
told_silent room Silent plays.OutOfMemory core happening t0 t1 silent (inr w) = inr (w.0, silent)
told_silent room Silent (plays.EventLimit tick) core happening t0 t1 silent w = (w.0, silent)

-- the first line of a session that ends it before the session sends anything
pub went_first : (end : Played) (core : CoreState) (waiting : List (List ℕ)) (tick session : ℕ) (text : List ℕ) (Silent : Type 0) (t0 t1 : Tally) → end ≢ plays.Ok → ¬ (end ≡ plays.WriteFault) → Silent →
    is_open core.sessions session ≡ false → Went 0 (Unit {0}) end core (going_to tick ∷ events.OpenControl session ∷ []) t0 t1 →
    Went 21 Silent end core (events_of core waiting (Timed tick (Command session text))) t0 t1
went_first end core waiting tick session text Silent t0 t1 other known silent closed w =
    let bytes : List ℕ = with_line (waits_of waiting session) text in
    let all : Bool → Bool → List Event = λ there whole. at_tick tick (opened_for there session ++ (if whole then sent session bytes ∷ [] else [])) in
    subst (λ b. Went 21 Silent end core (all b (is_whole bytes)) t0 t1) (sym closed) (by (is_whole bytes))
  where
    by : (whole : Bool) → Went 21 Silent end core (at_tick tick (opened_for false session ++ (if whole then sent session (with_line (waits_of waiting session) text) ∷ [] else []))) t0 t1
    by true =
        went_stops 21 Silent end core (going_to tick ∷ events.OpenControl session ∷ []) (sent session (with_line (waits_of waiting session) text) ∷ []) t0 t1 other known silent
        (sent_makes_none session (with_line (waits_of waiting session) text)) w
    by false = went_room 21 Silent end core (going_to tick ∷ events.OpenControl session ∷ []) t0 t1 (told_silent 0 Silent end core (going_to tick ∷ events.OpenControl session ∷ []) t0 t1 silent w)
