-- What has been played of a script, line by line: what was written or is still to be, and what was counted.
use Rattle.std.proofs.Common.{◌≡◌, ◌≢◌, ℕ, ◌+◌, ◌-◌, ◌*◌, ◌<◌, ◌≤◌, ◌⊎◌, Bool, true, false, List, [], ◌∷◌, ◌++◌, length, get_or, drop, map, Option, refl, sym, ap, subst, inl, inr, ◌∙◌, arith, if◌then◌else◌}
use Rattle.std.proofs.lemmas.List.{append_assoc, append-nil, at_drop_more, drop_all}
use Rattle.pb_ports.specs.Ports.{Adds}
use Rattle.pb_grammar.specs.Feeding.{Kept}
use Rattle.pb_still.specs.Eventful.{IsEventful}
use Rattle.pb_core.specs.declared.Event.{Event}
use Rattle.pb_core.specs.Answer.{CoreState, moment_of, after_all}
use Rattle.pb_core.specs.Kept.{KeptCore, Agrees}
use Rattle.pb_replay.specs.declared.played.Told.{Told}
use Rattle.pb_replay.specs.declared.played.Told.TheVariants as ends
use Rattle.pb_replay.specs.declared.played.Played.{Played}
use Rattle.pb_replay.specs.declared.played.Played.TheVariants as plays
use Rattle.pb_replay.specs.Script.{Line}
use Rattle.pb_replay.specs.Events.{nothing_waits, events_of, events_from, waits_after, going_to, is_last}
use Rattle.pb_replay.specs.Output.{sections}
use Rattle.pb_replay.specs.Counting.{Counted, limit, IsLimit, HasNoLimit, ticks_ahead, IsCountedPart}
use Rattle.pb_replay.specs.Plays.{AddsFront, BreaksOff, Plays}
use Rattle.pb_replay.specs.Pending.{PlaysOn, AreWritten, PlaysLine, IsSilent, IsStopped, played_of}
use Rattle.pb_replay.specs.Tallies.{Tally, AddsTicks, IsReady, WentAll, WentSome, WentTo, Went, Spends}
use Rattle.pb_replay.specs.Waiting.{AreFed}
use Rattle.pb_replay.proofs.PendingLemmas.{adds_twice, plays_on_twice, plays_on_nothing, front_none, sections-append, after_all-append}
use Rattle.pb_replay.proofs.CountingLemmas.{counted_append, part_all, part_longer, part_behind}
use Rattle.pb_replay.proofs.MarkedLines.{line_ready}

-- Of the events of all steps from this state on, those of the steps before this place happened. The core is what is kept of the state that
-- they lead to, and the assemblers were fed what waits later.
pub record Stands {S : Type 0} (f : S → Line) (state : CoreState) (core : KeptCore) (assemblers : List Kept) (pending : List ℕ) (steps : List S) (i : ℕ) (old now : Option (List ℕ)) (t0 t : Tally) : Type 0 where
  pub happened : List Event
  pub waiting : List (List ℕ)
  pub agrees : Agrees core (after_all state happened)
  pub fed : AreFed assemblers waiting
  pub split : events_from state nothing_waits (map f steps) ≡ happened ++ events_from (after_all state happened) waiting (map f (drop i steps))
  pub played : PlaysOn (sections state happened) ends.Ok [] old pending now
  pub eventful : ℕ
  pub busy : ℕ
  pub counted : Counted state happened eventful busy
  pub adds : AddsTicks eventful busy (21 * i) t0 t
  pub first : t0.eventful ≡ 0
  pub within : i ≤ length steps
  pub ready : IsEventful (moment_of (after_all state happened))

none_gone : {S : Type 0} (steps : List S) → drop 0 steps ≡ steps
none_gone [] = refl
none_gone (step ∷ steps) = refl

pub stands_first : {S : Type 0} (f : S → Line) (state : CoreState) (core : KeptCore) (assemblers : List Kept) (pending : List ℕ) (steps : List S) (old : Option (List ℕ)) (t : Tally) →
    Agrees core state → AreFed assemblers nothing_waits → pending ≡ [] → t.eventful ≡ 0 → IsEventful (moment_of state) → Stands f state core assemblers pending steps 0 old old t t
stands_first f state core assemblers pending steps old t h fed none first ready =
    record {
      happened = [];
      waiting = nothing_waits;
      agrees = h;
      fed = fed;
      split = ap (λ all. events_from state nothing_waits (map f all)) (sym (none_gone steps));
      played = subst (λ p. PlaysOn [] ends.Ok [] old p old) (sym none) (plays_on_nothing [] old);
      eventful = 0;
      busy = 0;
      counted = (refl, refl);
      adds = record { ticks = omega arith; few = omega (arith, first); calls = omega arith };
      first = first;
      within = omega arith;
      ready = ready;
    }

-- One step on.

-- what a line leaves to happen behind it
abbrev pub behind : Bool → List Event → List Event
behind last more = if last then [] else more

module _ {S : Type 0} (f : S → Line) (state : CoreState) (core : KeptCore) (assemblers : List Kept) (pending : List ℕ) (steps : List S) (i : ℕ) (d : S) (old mid : Option (List ℕ)) (t0 t : Tally)
    (lt : i < length steps) (p : Stands f state core assemblers pending steps i old mid t0 t) where
  abbrev pub line : Line
  line = f (get_or steps i d)

  abbrev pub here : CoreState
  here = after_all state p.happened

  abbrev pub part : List Event
  part = events_of here p.waiting line

  abbrev pub later : CoreState
  later = after_all here part

  abbrev pub rest : List Event
  rest = events_from later (waits_after p.waiting line) (map f (drop (i + 1) steps))

  to_come : events_from here p.waiting (map f (drop i steps)) ≡ part ++ behind (is_last line) rest
  to_come = at_drop_more (λ all. events_from here p.waiting (map f all)) steps i d lt

  split_here : events_from state nothing_waits (map f steps) ≡ (p.happened ++ part) ++ behind (is_last line) rest
  split_here = p.split ∙ (ap (λ x. p.happened ++ x) to_come ∙ sym (append_assoc p.happened part (behind (is_last line) rest)))

  ready_here : IsReady here t.eventful
  ready_here = record { now = p.ready; few = p.adds.few }

  there : after_all state (p.happened ++ part) ≡ later
  there = after_all-append p.happened part state

  sections_there : sections state (p.happened ++ part) ≡ sections state p.happened ++ sections here part
  sections_there = sections-append p.happened part state

  -- the line was played to its end
  counted_there : (next : Tally) → (w : WentAll 21 here part t next) → Counted state (p.happened ++ part) (p.eventful + w.eventful) (p.busy + w.busy)
  counted_there next w = counted_append p.happened part state p.eventful p.busy w.eventful w.busy p.counted w.counted

  adds_there : (next : Tally) (e b : ℕ) → AddsTicks e b 21 t next → AddsTicks (p.eventful + e) (p.busy + b) (21 * (i + 1)) t0 next
  adds_there next e b w = record { ticks = omega (arith, w.ticks, p.adds.ticks); few = w.few; calls = omega (arith, w.calls, p.adds.calls) }

  few_there : (next : Tally) (e b : ℕ) → AddsTicks e b 21 t next → p.eventful + e < limit
  few_there next e b w = omega (arith, w.ticks, p.adds.ticks, p.first, w.few)

  played_there : (told : Told) (q : List ℕ) (now : Option (List ℕ)) → PlaysOn (sections here part) told pending mid q now → PlaysOn (sections state (p.happened ++ part)) told [] old q now
  played_there told q now k =
      subst (λ b. PlaysOn b told [] old q now) (sym sections_there)
      (plays_on_twice told (sections state p.happened) (sections here part) [] pending q old mid now p.played k)

  -- it broke off, and a front of it was written
  breaks_there : (next : Tally) (now : Option (List ℕ)) → (w : WentAll 21 here part t next) → AddsFront old (sections state (p.happened ++ part)) now →
      BreaksOff state (events_from state nothing_waits (map f steps)) old now
  breaks_there next now w k = (
    p.happened ++ part,
    behind (is_last line) rest,
    split_here,
    (p.eventful + w.eventful, p.busy + w.busy, counted_there next w, few_there next w.eventful w.busy w.adds),
    k,
  )

  -- of what was still to be written some front is
  front_here : (now : Option (List ℕ)) → AddsFront mid pending now → AddsFront old (sections state p.happened) now
  front_here now k = (
    p.played.0 ++ k.0,
    k.1,
    p.played.1 ∙ (ap (λ x. p.played.0 ++ x) k.2 ∙ sym (append_assoc p.played.0 k.0 k.1)),
    adds_twice old mid now p.played.0 k.0 p.played.2 k.3,
  )

  -- nothing of it was
  breaks_here : (now : Option (List ℕ)) → AddsFront mid pending now → BreaksOff state (events_from state nothing_waits (map f steps)) old now
  breaks_here now k = (
    p.happened,
    events_from here p.waiting (map f (drop i steps)),
    p.split,
    (p.eventful, p.busy, p.counted, omega (arith, p.adds.ticks, p.first, p.adds.few)),
    front_here now k,
  )

  no_front : AddsFront mid pending mid
  no_front = front_none pending mid

  -- how a step ends playing
  ends_there : (end : Played) (next : Tally) (q : List ℕ) (now : Option (List ℕ)) → end ≢ plays.Ok → ((tick : ℕ) → end ≢ plays.EventLimit tick) →
      PlaysLine (sections here part) end pending mid q now → Went 21 (IsSilent pending mid q now) end here part t next →
      Plays state (events_from state nothing_waits (map f steps)) end old now
  ends_there plays.Ok next q now other below k w = absurd (other refl)
  ends_there plays.WriteFault next q now other below k w = breaks_there next now w (played_there ends.WriteFault q now k)
  ends_there plays.OutOfMemory next q now other below k (inl w) = breaks_there next now w (played_there ends.OutOfMemory q now k)
  ends_there plays.OutOfMemory next q now other below k (inr w) =
      breaks_here now (subst (λ x. AddsFront mid pending x) (sym w.1.1) no_front)
  ends_there (plays.EventLimit tick) next q now other below k w = absurd (below tick refl)

  -- what it spent later
  part_there : (e b : ℕ) → IsCountedPart here part e b → IsCountedPart state (events_from state nothing_waits (map f steps)) (p.eventful + e) (p.busy + b)
  part_there e b h =
      subst (λ all. IsCountedPart state all (p.eventful + e) (p.busy + b)) (sym split_here)
      (part_longer state (p.happened ++ part) (behind (is_last line) rest) (p.eventful + e) (p.busy + b)
      (part_behind state p.happened part p.eventful p.busy e b p.counted h))

  spends_by : (next : Tally) (e b spent : ℕ) → spent ≤ next.calls → IsCountedPart here part e b → AddsTicks e b 21 t next →
      Spends state (events_from state nothing_waits (map f steps)) (length steps) t0.calls spent
  spends_by next e b spent le h w =
      record {
        eventful = p.eventful + e;
        busy = p.busy + b;
        part = part_there e b h;
        calls = omega (arith, le, lt, w.calls, p.adds.calls);
      }

  spends_all : (next : Tally) (spent : ℕ) → spent ≤ next.calls → WentAll 21 here part t next → Spends state (events_from state nothing_waits (map f steps)) (length steps) t0.calls spent
  spends_all next spent le w = spends_by next w.eventful w.busy spent le (part_all here part w.eventful w.busy w.counted) w.adds

  pub ends_spent : (end : Played) (Silent : Type 0) (next : Tally) (spent : ℕ) → spent ≤ next.calls → Went 21 Silent end here part t next →
      Spends state (events_from state nothing_waits (map f steps)) (length steps) t0.calls spent
  ends_spent plays.Ok Silent next spent le w = spends_all next spent le w
  ends_spent plays.WriteFault Silent next spent le w = spends_all next spent le w
  ends_spent plays.OutOfMemory Silent next spent le (inl w) = spends_all next spent le w
  ends_spent plays.OutOfMemory Silent next spent le (inr w) = spends_by next w.0.eventful w.0.busy spent le w.0.part w.0.adds
  ends_spent (plays.EventLimit tick) Silent next spent le w =
      let x : w.0.eventful ≡ 0 + w.0.eventful = omega arith in
      spends_by next w.0.eventful w.0.busy spent le
      (record {
        front = [];
        rest = part;
        split = refl;
        early = 0;
        work = 0;
        counted = (refl, refl);
        ticks = tick - here.box.stands.tick;
        within = subst (λ all. tick - here.box.stands.tick ≤ ticks_ahead here all) (sym w.0.split) (omega (arith, w.0.below));
        late = w.0.eventful;
        more = w.0.busy;
        run = w.0.run;
        all_eventful = omega arith;
        all_busy = omega arith;
      })
      w.0.adds

  -- at the limit
  limit_there : (tick : ℕ) (next : Tally) → WentTo tick 21 here part t next → IsLimit state (events_from state nothing_waits (map f steps)) p.happened tick
  limit_there tick next w =
      record {
        to = w.to;
        rest = w.rest ++ behind (is_last line) rest;
        split = p.split ∙ (ap (λ x. p.happened ++ x) to_come ∙ ap (λ x. p.happened ++ (x ++ behind (is_last line) rest)) w.split);
        early = p.eventful;
        work = p.busy;
        counted = p.counted;
        from_there = w.from_now;
        below = w.below;
        late = w.eventful;
        more = w.busy;
        run = w.run;
        eventful = w.next;
        last = omega (arith, w.last, w.adds.ticks, p.adds.ticks, p.first);
      }

  -- what was still to be written is, at the limit
  stops_there : (tick : ℕ) (next : Tally) (end : Played) (q : List ℕ) (then_held now : Option (List ℕ)) → Went 21 (IsSilent pending mid q then_held) (plays.EventLimit tick) here part t next →
      IsStopped tick q end then_held now → Plays state (events_from state nothing_waits (map f steps)) end old now
  stops_there tick next end q then_held now w k =
      by end (subst (λ b. IsStopped tick b end mid now) w.1.0 (subst (λ x. IsStopped tick q end x now) w.1.1 k))
    where
      by : (e : Played) → IsStopped tick pending e mid now → Plays state (events_from state nothing_waits (map f steps)) e old now
      by plays.Ok j = absurd j
      by plays.WriteFault j = breaks_here now j
      by plays.OutOfMemory j = breaks_here now j
      by (plays.EventLimit at) j = (
        p.happened,
        subst (λ n. IsLimit state (events_from state nothing_waits (map f steps)) p.happened n) (sym j.0) (limit_there tick next w.0),
        subst (λ b. Adds old b now) (sym p.played.1) (adds_twice old mid now p.played.0 pending p.played.2 j.1),
      )

-- what is pending is written
finish : (state : CoreState) (all : List Event) (end : Played) (told : Told) (pending : List ℕ) (old mid now : Option (List ℕ)) → end ≡ played_of told → HasNoLimit state all →
    PlaysOn (sections state all) ends.Ok [] old pending mid → AreWritten pending told mid now → Plays state all end old now
finish state all end told pending old mid now is none m k = subst (λ e. Plays state all e old now) (sym is) (by told k)
  where
    front : AddsFront mid pending now → BreaksOff state all old now
    front j = (
      all,
      [],
      sym (append-nil all),
      none,
      (m.0 ++ j.0, j.1, m.1 ∙ (ap (λ x. m.0 ++ x) j.2 ∙ sym (append_assoc m.0 j.0 j.1)), adds_twice old mid now m.0 j.0 m.2 j.3),
    )

    by : (t : Told) → AreWritten pending t mid now → Plays state all (played_of t) old now
    by ends.Ok j = (none, subst (λ bytes. Adds old bytes now) (sym m.1) (adds_twice old mid now m.0 pending m.2 j))
    by ends.WriteFault j = front j
    by ends.OutOfMemory j = front j

-- What a step is known to do, wherever it begins.
abbrev pub Tells : {S : Type 0} → (S → Line) → KeptCore → List Kept → S → Played → List ℕ → Option (List ℕ) → List ℕ → Option (List ℕ) → Type 0
Tells f core assemblers step end pending mid later now =
    (s : CoreState) → Agrees core s → (w : List (List ℕ)) → AreFed assemblers w → PlaysLine (sections s (events_of s w (f step))) end pending mid later now

abbrev pub Counts : {S : Type 0} → (S → Line) → KeptCore → List Kept → S → Played → Type 0 → Tally → Tally → Type 0
Counts f core assemblers step end Silent t next =
    (s : CoreState) → Agrees core s → IsReady s t.eventful → (w : List (List ℕ)) → AreFed assemblers w → Went 21 Silent end s (events_of s w (f step)) t next

module _ {S : Type 0} (f : S → Line) (state : CoreState) (core : KeptCore) (assemblers : List Kept) (pending : List ℕ) (steps : List S) (i : ℕ) (d : S) (old mid : Option (List ℕ)) (t0 t : Tally)
    (lt : i < length steps) (p : Stands f state core assemblers pending steps i old mid t0 t) where
  went_here : (end : Played) (Silent : Type 0) (next : Tally) → Counts f core assemblers (get_or steps i d) end Silent t next →
      Went 21 Silent end (after_all state p.happened) (events_of (after_all state p.happened) p.waiting (f (get_or steps i d))) t next
  went_here end Silent next went =
      went (after_all state p.happened) p.agrees (record { now = p.ready; few = p.adds.few }) p.waiting p.fed

  -- one step more
  pub stands_more : (next : KeptCore) (fed_more : List Kept) (later : List ℕ) (now : Option (List ℕ)) (Silent : Type 0) (t' : Tally) → is_last (f (get_or steps i d)) ≡ false
      → Tells f core assemblers (get_or steps i d) plays.Ok pending mid later now
      → ((s : CoreState) → Agrees core s → (w : List (List ℕ)) → AreFed assemblers w → Agrees next (after_all s (events_of s w (f (get_or steps i d)))))
      → ((w : List (List ℕ)) → AreFed assemblers w → AreFed fed_more (waits_after w (f (get_or steps i d))))
      → Counts f core assemblers (get_or steps i d) plays.Ok Silent t t' → Stands f state next fed_more later steps (i + 1) old now t0 t'
  stands_more next fed_more later now Silent t' last tells leads feeds went =
      let s : CoreState = after_all state p.happened in
      let part : List Event = events_of s p.waiting (f (get_or steps i d)) in
      let w : WentAll 21 s part t t' = went_here plays.Ok Silent t' went in
      let there : after_all state (p.happened ++ part) ≡ after_all s part = after_all-append p.happened part state in
      let rest : List Event = events_from (after_all s part) (waits_after p.waiting (f (get_or steps i d))) (map f (drop (i + 1) steps)) in
      record {
        happened = p.happened ++ part;
        waiting = waits_after p.waiting (f (get_or steps i d));
        agrees = subst (Agrees next) (sym there) (leads s p.agrees p.waiting p.fed);
        fed = feeds p.waiting p.fed;
        split = split_here f state core assemblers pending steps i d old mid t0 t lt p
            ∙ (ap (λ b. (p.happened ++ part) ++ behind b rest) last
            ∙ ap (λ c. (p.happened ++ part) ++ events_from c (waits_after p.waiting (f (get_or steps i d))) (map f (drop (i + 1) steps))) (sym there));
        played = played_there f state core assemblers pending steps i d old mid t0 t lt p ends.Ok later now (tells s p.agrees p.waiting p.fed);
        eventful = p.eventful + w.eventful;
        busy = p.busy + w.busy;
        counted = counted_there f state core assemblers pending steps i d old mid t0 t lt p t' w;
        adds = adds_there f state core assemblers pending steps i d old mid t0 t lt p t' w.eventful w.busy w.adds;
        first = p.first;
        within = omega (arith, lt);
        ready = subst (λ c. IsEventful (moment_of c)) (sym there) (line_ready (f (get_or steps i d)) s p.waiting last p.ready);
      }

  -- a step that breaks off
  pub stands_break : (end : Played) (later : List ℕ) (now : Option (List ℕ)) (t' : Tally) → end ≢ plays.Ok → ((tick : ℕ) → end ≢ plays.EventLimit tick)
      → Tells f core assemblers (get_or steps i d) end pending mid later now → Counts f core assemblers (get_or steps i d) end (IsSilent pending mid later now) t t'
      → Plays state (events_from state nothing_waits (map f steps)) end old now
  stands_break end later now t' other below tells went =
      ends_there f state core assemblers pending steps i d old mid t0 t lt p end t' later now other below
      (tells (after_all state p.happened) p.agrees p.waiting p.fed) (went_here end (IsSilent pending mid later now) t' went)

  pub stands_spent : (end : Played) (Silent : Type 0) (t' : Tally) (spent : ℕ) → spent ≤ t'.calls → Counts f core assemblers (get_or steps i d) end Silent t t'
      → Spends state (events_from state nothing_waits (map f steps)) (length steps) t0.calls spent
  stands_spent end Silent t' spent le went =
      ends_spent f state core assemblers pending steps i d old mid t0 t lt p end Silent t' spent le (went_here end Silent t' went)

  -- a step that comes to the limit
  pub stands_limit : (tick : ℕ) (end : Played) (later : List ℕ) (then_held now : Option (List ℕ)) (t' : Tally)
      → Counts f core assemblers (get_or steps i d) (plays.EventLimit tick) (IsSilent pending mid later then_held) t t' → IsStopped tick later end then_held now
      → Plays state (events_from state nothing_waits (map f steps)) end old now
  stands_limit tick end later then_held now t' went k =
      stops_there f state core assemblers pending steps i d old mid t0 t lt p tick t' end later then_held now
      (went_here (plays.EventLimit tick) (IsSilent pending mid later then_held) t' went) k

  -- the last step
  pub stands_end : (end : Played) (told : Told) (later : List ℕ) (then_held now : Option (List ℕ)) (Silent : Type 0) (t' : Tally) → is_last (f (get_or steps i d)) ≡ true → end ≡ played_of told
      → Tells f core assemblers (get_or steps i d) plays.Ok pending mid later then_held → Counts f core assemblers (get_or steps i d) plays.Ok Silent t t' → AreWritten later told then_held now
      → Plays state (events_from state nothing_waits (map f steps)) end old now
  stands_end end told later then_held now Silent t' last is tells went k =
      let s : CoreState = after_all state p.happened in
      let part : List Event = events_of s p.waiting (f (get_or steps i d)) in
      let rest : List Event = events_from (after_all s part) (waits_after p.waiting (f (get_or steps i d))) (map f (drop (i + 1) steps)) in
      let w : WentAll 21 s part t t' = went_here plays.Ok Silent t' went in
      let all : events_from state nothing_waits (map f steps) ≡ p.happened ++ part =
      split_here f state core assemblers pending steps i d old mid t0 t lt p
      ∙ (ap (λ b. (p.happened ++ part) ++ behind b rest) last ∙ append-nil (p.happened ++ part)) in
      subst (λ x. Plays state x end old now) (sym all)
      (finish state (p.happened ++ part) end told later old then_held now is (
        p.eventful + w.eventful,
        p.busy + w.busy,
        counted_there f state core assemblers pending steps i d old mid t0 t lt p t' w,
        few_there f state core assemblers pending steps i d old mid t0 t lt p t' w.eventful w.busy w.adds,
      )
      (played_there f state core assemblers pending steps i d old mid t0 t lt p ends.Ok later then_held (tells s p.agrees p.waiting p.fed)) k)

-- All steps.

module _ {S : Type 0} (f : S → Line) (state : CoreState) (core : KeptCore) (assemblers : List Kept) (pending : List ℕ) (steps : List S) (i : ℕ) (old mid : Option (List ℕ)) (t0 t : Tally)
    (none : length steps ≤ i) (p : Stands f state core assemblers pending steps i old mid t0 t) where
  over : events_from state nothing_waits (map f steps) ≡ p.happened
  over =
      p.split
      ∙ (ap (λ all. p.happened ++ events_from (after_all state p.happened) p.waiting (map f all)) (drop_all i steps none) ∙ append-nil p.happened)

  pub stands_all : (end : Played) (told : Told) (now : Option (List ℕ)) → end ≡ played_of told → AreWritten pending told mid now → Plays state (events_from state nothing_waits (map f steps)) end old now
  stands_all end told now is k =
      subst (λ x. Plays state x end old now) (sym over)
      (finish state p.happened end told pending old mid now is (p.eventful, p.busy, p.counted, omega (arith, p.adds.ticks, p.first, p.adds.few)) p.played k)

  pub all_spent : (spent : ℕ) → spent ≤ t.calls → Spends state (events_from state nothing_waits (map f steps)) (length steps) t0.calls spent
  all_spent spent le =
      record {
        eventful = p.eventful;
        busy = p.busy;
        part = subst (λ x. IsCountedPart state x p.eventful p.busy) (sym over) (part_all state p.happened p.eventful p.busy p.counted);
        calls = omega (arith, le, p.within, p.adds.calls);
      }

-- a write failed where one did
pub wrote : (told : Told) → played_of told ≡ plays.WriteFault → told ≡ ends.WriteFault
wrote ends.Ok e = cc
wrote ends.WriteFault e = refl
wrote ends.OutOfMemory e = cc
