-- What data sessions take: piece by piece until there is none, and session by session at the end; and the lines of a data session.
use Rattle.std.proofs.Common.{◌≡◌, ◌≢◌, ℕ, ◌+◌, ◌-◌, ◌<◌, ◌≤◌, Bool, true, false, List, [], ◌∷◌, ◌++◌, Option, refl, sym, ap, subst, ◌∙◌, arith, if◌then◌else◌}
use Rattle.std.proofs.lemmas.List.{append_assoc}
use Rattle.pb_core.specs.declared.Event.{Event}
use Rattle.pb_core.specs.declared.Event.TheVariants as events
use Rattle.pb_core.specs.Answer.{CoreState, answer, after, after_all}
use Rattle.pb_core.specs.Kept.{KeptCore, Agrees}
use Rattle.pb_core.specs.Sessions.{is_reading, session_ids}
use Rattle.pb_replay.specs.declared.played.Told.{Told}
use Rattle.pb_replay.specs.declared.played.Told.TheVariants as ends
use Rattle.pb_replay.specs.Script.{Timed, OpenData, Take, End}
use Rattle.pb_replay.specs.Events.{going_to, is_piece, takes_up_to, most_takes, takes_of, takes_of_all, events_of}
use Rattle.pb_replay.specs.Output.{written, sections}
use Rattle.pb_replay.specs.Pending.{PlaysOn}
use Rattle.pb_replay.proofs.PendingLemmas.{plays_on_twice, plays_on_break}
use Rattle.pb_replay.proofs.LinesPlayed.{opened_again, opened_new, last_writes}
use Rattle.pb_replay.proofs.TakenPieces.{Comes, comes_first, comes_more, comes_break, comes_all, comes_to, one_taken, none_taken, no_turns, ids_from, ids_more, ids_none}

-- Pieces.

pub most_is : most_takes ≡ 18446744073709551615
unfolding most_takes
most_is = refl

-- what a session has still to take after so many pieces
abbrev pub left_after : ℕ → ℕ → CoreState → List Event
left_after i session s = takes_up_to (most_takes - i) s session

abbrev pub take_it : ℕ → CoreState → List Event
take_it session s = events.Take session ∷ []

-- nothing was taken
pub pieces_first : (session : ℕ) (state : CoreState) (core : KeptCore) (p : List ℕ) (h : Option (List ℕ)) → Agrees core state →
    Comes state (takes_up_to most_takes state session) core (left_after 0 session) p p h h
pieces_first session state core p h is =
    let all : most_takes - 0 ≡ most_takes = omega arith in
    subst (λ n. Comes state (takes_up_to n state session) core (left_after 0 session) p p h h) all
    (comes_first state core (left_after 0 session) p h is)

-- a piece was taken
pub pieces_more : (i session : ℕ) (state : CoreState) (all : List Event) (core next : KeptCore) (p0 p q : List ℕ) (h0 h k : Option (List ℕ)) → i < 18446744073709551615 →
    ((s : CoreState) → Agrees core s → true ≡ is_piece (answer s (events.Take session))) → Comes state all core (left_after i session) p0 p h0 h →
    ((s : CoreState) → Agrees core s → PlaysOn (written s (events.Take session)) ends.Ok p h q k) → ((s : CoreState) → Agrees core s → Agrees next (after s (events.Take session))) →
    Comes state all next (left_after (i + 1) session) p0 q h0 k
pieces_more i session state all core next p0 p q h0 h k lt is c plays leads =
    let below : i < most_takes = subst (λ n. i < n) (sym most_is) lt in
    comes_more state all core next (left_after i session) (left_after (i + 1) session) (take_it session) p0 p q h0 h k
    (λ s agrees. one_taken most_takes i session s below (sym (is s agrees))) c
    (λ s agrees. last_writes (written s (events.Take session)) p q ends.Ok h k (plays s agrees)) leads

-- there was none
pub pieces_last : (i session : ℕ) (state : CoreState) (all : List Event) (core next : KeptCore) (p0 p q : List ℕ) (h0 h k : Option (List ℕ)) → i < 18446744073709551615 →
    ((s : CoreState) → Agrees core s → false ≡ is_piece (answer s (events.Take session))) → Comes state all core (left_after i session) p0 p h0 h →
    ((s : CoreState) → Agrees core s → PlaysOn (written s (events.Take session)) ends.Ok p h q k) → ((s : CoreState) → Agrees core s → Agrees next (after s (events.Take session))) →
    Comes state all next (λ s. []) p0 q h0 k
pieces_last i session state all core next p0 p q h0 h k lt is c plays leads =
    let below : i < most_takes = subst (λ n. i < n) (sym most_is) lt in
    comes_more state all core next (left_after i session) (λ s. []) (take_it session) p0 p q h0 h k
    (λ s agrees. none_taken most_takes i session s below (sym (is s agrees))) c
    (λ s agrees. last_writes (written s (events.Take session)) p q ends.Ok h k (plays s agrees)) leads

pub all_written : (state : CoreState) (all : List Event) (core : KeptCore) (p0 p : List ℕ) (h0 h : Option (List ℕ)) → Comes state all core (λ s. []) p0 p h0 h → PlaysOn (sections state all) ends.Ok p0 h0 p h
all_written state all core p0 p h0 h c = comes_all state all core (λ s. []) p0 p h0 h (λ s. refl) c

pub all_left : (state : CoreState) (all : List Event) (core : KeptCore) (p0 p : List ℕ) (h0 h : Option (List ℕ)) → Comes state all core (λ s. []) p0 p h0 h → Agrees core (after_all state all)
all_left state all core p0 p h0 h c = comes_to state all core (λ s. []) p0 p h0 h (λ s. refl) c

-- there is no turn more
pub turns_over : (i session : ℕ) (s : CoreState) → 18446744073709551615 ≤ i → left_after i session s ≡ []
turns_over i session s le = no_turns most_takes i session s (subst (λ n. n ≤ i) (sym most_is) le)

-- what a session takes next, whether it is handed a piece or not
next_taken : (i session : ℕ) (s : CoreState) → i < most_takes →
    left_after i session s ≡ events.Take session ∷ (if is_piece (answer s (events.Take session)) then left_after (i + 1) session (after s (events.Take session)) else [])
next_taken i session s lt = split (is_piece (answer s (events.Take session))) refl
  where
    split : (b : Bool) → is_piece (answer s (events.Take session)) ≡ b →
        left_after i session s ≡ events.Take session ∷ (if b then left_after (i + 1) session (after s (events.Take session)) else [])
    split true is = one_taken most_takes i session s lt is
    split false is = none_taken most_takes i session s lt is

-- it broke off there
pub pieces_break : (end : Told) (i session : ℕ) (state : CoreState) (all : List Event) (core : KeptCore) (p0 p q : List ℕ) (h0 h k : Option (List ℕ)) → end ≢ ends.Ok → i < 18446744073709551615 →
    Comes state all core (left_after i session) p0 p h0 h → ((s : CoreState) → Agrees core s → PlaysOn (written s (events.Take session)) end p h q k) →
    PlaysOn (sections state all) end p0 h0 q k
pieces_break end i session state all core p0 p q h0 h k other lt c plays =
    let s : CoreState = c.reached in
    let below : i < most_takes = subst (λ n. i < n) (sym most_is) lt in
    let more : List Event = if is_piece (answer s (events.Take session)) then left_after (i + 1) session (after s (events.Take session)) else [] in
    let part : List ℕ = written s (events.Take session) in
    let split : sections state all ≡ (c.done ++ part) ++ sections (after s (events.Take session)) more =
    c.split ∙ (ap (λ x. c.done ++ sections s x) (next_taken i session s below) ∙ sym (append_assoc c.done part _)) in
    subst (λ b. PlaysOn b end p0 h0 q k) (sym split)
    (plays_on_break end (c.done ++ part) _ p0 q h0 k other (plays_on_twice end c.done part p0 p q h0 h k c.played (plays s c.agrees)))

-- Sessions.

-- a session that is open takes, and another one doesn't
pub reads : (P : List Event → Type 0) (state : CoreState) (session : ℕ) → is_reading state.acquisitions session ≡ true → P (takes_up_to most_takes state session) → P (takes_of state session)
reads P state session there h = subst (λ b. P (if b then takes_up_to most_takes state session else [])) (sym there) h

pub reads_none : (P : List Event → Type 0) (state : CoreState) (session : ℕ) → is_reading state.acquisitions session ≡ false → P [] → P (takes_of state session)
reads_none P state session there h = subst (λ b. P (if b then takes_up_to most_takes state session else [])) (sym there) h

-- what the sessions from this one on have still to take
abbrev pub left_from : ℕ → CoreState → List Event
left_from id s = takes_of_all s (ids_from id)

abbrev pub takes_it : ℕ → CoreState → List Event
takes_it id s = takes_of s id

pub sessions_more : (id : ℕ) (state : CoreState) (all : List Event) (core next : KeptCore) (p0 p q : List ℕ) (h0 h k : Option (List ℕ)) → id < 9 →
    Comes state all core (left_from id) p0 p h0 h →
    ((s : CoreState) → Agrees core s → PlaysOn (sections s (takes_of s id)) ends.Ok p h q k) → ((s : CoreState) → Agrees core s → Agrees next (after_all s (takes_of s id))) →
    Comes state all next (left_from (id + 1)) p0 q h0 k
sessions_more id state all core next p0 p q h0 h k lt c plays leads =
    comes_more state all core next (left_from id) (left_from (id + 1)) (takes_it id) p0 p q h0 h k (λ s agrees. ids_more id s lt) c plays leads

pub sessions_break : (end : Told) (id : ℕ) (state : CoreState) (all : List Event) (core : KeptCore) (p0 p q : List ℕ) (h0 h k : Option (List ℕ)) → end ≢ ends.Ok → id < 9 →
    Comes state all core (left_from id) p0 p h0 h →
    ((s : CoreState) → Agrees core s → PlaysOn (sections s (takes_of s id)) end p h q k) → PlaysOn (sections state all) end p0 h0 q k
sessions_break end id state all core p0 p q h0 h k other lt c plays =
    comes_break end state all core (left_from id) (left_from (id + 1)) (takes_it id) p0 p q h0 h k other (λ s agrees. ids_more id s lt) c plays

pub sessions_over : (id : ℕ) (s : CoreState) → 9 ≤ id → left_from id s ≡ []
sessions_over id s le = ids_none id s le

-- Lines of a data session. The advance writes nothing: what was still to be written stays the same.

-- at this tick
abbrev pub at : CoreState → ℕ → CoreState
at state tick = after state (going_to tick)

-- and with this session closed
abbrev pub closed_at : CoreState → ℕ → ℕ → CoreState
closed_at state tick session = after (at state tick) (events.CloseData session)

pub take_plays : (state : CoreState) (waiting : List (List ℕ)) (tick session : ℕ) (end : Told) (before p q : List ℕ) (h k : Option (List ℕ)) → p ≡ before →
    PlaysOn (written (at state tick) (events.Take session)) end p h q k → PlaysOn (sections state (events_of state waiting (Timed tick (Take session)))) end before h q k
take_plays state waiting tick session end before p q h k same plays =
    subst (λ b. PlaysOn (written (at state tick) (events.Take session) ++ []) end b h q k) same (last_writes (written (at state tick) (events.Take session)) p q end h k plays)

pub end_plays : (state : CoreState) (waiting : List (List ℕ)) (tick : ℕ) (end : Told) (before p q : List ℕ) (h k : Option (List ℕ)) → p ≡ before →
    PlaysOn (sections (at state tick) (takes_of_all (at state tick) session_ids)) end p h q k → PlaysOn (sections state (events_of state waiting (Timed tick End))) end before h q k
end_plays state waiting tick end before p q h k same plays =
    subst (λ b. PlaysOn (sections (at state tick) (takes_of_all (at state tick) session_ids)) end b h q k) same plays

pub again_plays : (state : CoreState) (waiting : List (List ℕ)) (tick session : ℕ) (options : List ℕ) (end : Told) (before p q : List ℕ) (h k : Option (List ℕ)) → is_reading state.acquisitions session ≡ true → p ≡ before →
    PlaysOn (written (closed_at state tick session) (events.OpenData session options)) end p h q k → PlaysOn (sections state (events_of state waiting (Timed tick (OpenData session options)))) end before h q k
again_plays state waiting tick session options end before p q h k there same plays =
    opened_again (λ happened. PlaysOn (sections state happened) end before h q k) state waiting tick session options there
    (subst (λ b. PlaysOn (written (closed_at state tick session) (events.OpenData session options) ++ []) end b h q k) same
    (last_writes (written (closed_at state tick session) (events.OpenData session options)) p q end h k plays))

pub again_leaves : (state : CoreState) (waiting : List (List ℕ)) (tick session : ℕ) (options : List ℕ) (core : KeptCore) → is_reading state.acquisitions session ≡ true →
    Agrees core (after (closed_at state tick session) (events.OpenData session options)) → Agrees core (after_all state (events_of state waiting (Timed tick (OpenData session options))))
again_leaves state waiting tick session options core there leaves =
    opened_again (λ happened. Agrees core (after_all state happened)) state waiting tick session options there leaves

pub new_plays : (state : CoreState) (waiting : List (List ℕ)) (tick session : ℕ) (options : List ℕ) (end : Told) (before p q : List ℕ) (h k : Option (List ℕ)) → is_reading state.acquisitions session ≡ false → p ≡ before →
    PlaysOn (written (at state tick) (events.OpenData session options)) end p h q k → PlaysOn (sections state (events_of state waiting (Timed tick (OpenData session options)))) end before h q k
new_plays state waiting tick session options end before p q h k there same plays =
    opened_new (λ happened. PlaysOn (sections state happened) end before h q k) state waiting tick session options there
    (subst (λ b. PlaysOn (written (at state tick) (events.OpenData session options) ++ []) end b h q k) same
    (last_writes (written (at state tick) (events.OpenData session options)) p q end h k plays))

pub new_leaves : (state : CoreState) (waiting : List (List ℕ)) (tick session : ℕ) (options : List ℕ) (core : KeptCore) → is_reading state.acquisitions session ≡ false →
    Agrees core (after (at state tick) (events.OpenData session options)) → Agrees core (after_all state (events_of state waiting (Timed tick (OpenData session options))))
new_leaves state waiting tick session options core there leaves =
    opened_new (λ happened. Agrees core (after_all state happened)) state waiting tick session options there leaves
