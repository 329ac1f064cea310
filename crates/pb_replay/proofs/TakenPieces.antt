-- What readers take at the end, piece by piece and session by session.
use Rattle.std.proofs.Common.{◌≡◌, ◌≢◌, ℕ, suc, ◌+◌, ◌-◌, ◌<◌, ◌≤◌, true, false, List, [], ◌∷◌, ◌++◌, Option, refl, sym, ap, subst, ◌∙◌, arith}
use Rattle.std.specs.List.{range_with_len}
use Rattle.std.proofs.lemmas.List.{append_assoc, append-nil}
use Rattle.std.proofs.lemmas.Bool.{cond-true, cond-false}
use Rattle.pb_core.specs.declared.Event.{Event}
use Rattle.pb_core.specs.declared.Event.TheVariants as events
use Rattle.pb_core.specs.Answer.{CoreState, answer, after, after_all}
use Rattle.pb_core.specs.Kept.{KeptCore, Agrees}
use Rattle.pb_replay.specs.declared.played.Told.{Told}
use Rattle.pb_replay.specs.declared.played.Told.TheVariants as ends
use Rattle.pb_replay.specs.Events.{is_piece, takes_up_to, takes_of, takes_of_all}
use Rattle.pb_replay.specs.Output.{sections}
use Rattle.pb_replay.specs.Pending.{PlaysOn}
use Rattle.pb_replay.proofs.PendingLemmas.{sections-append, after_all-append, plays_on_twice, plays_on_break, plays_on_nothing}

-- Of all that is to happen from this state on, some is done, and this is left.
pub record Comes (state : CoreState) (all : List Event) (core : KeptCore) (rest : CoreState → List Event) (p0 p : List ℕ) (h0 h : Option (List ℕ)) : Type 0 where
  pub reached : CoreState
  pub done : List ℕ
  pub agrees : Agrees core reached
  pub split : sections state all ≡ done ++ sections reached (rest reached)
  pub leads : after_all state all ≡ after_all reached (rest reached)
  pub played : PlaysOn done ends.Ok p0 h0 p h

pub comes_first : (state : CoreState) (core : KeptCore) (rest : CoreState → List Event) (p : List ℕ) (h : Option (List ℕ)) → Agrees core state → Comes state (rest state) core rest p p h h
comes_first state core rest p h is =
    record { reached = state; done = []; agrees = is; split = refl; leads = refl; played = plays_on_nothing p h }

-- what is left is some events and then less
pub comes_more : (state : CoreState) (all : List Event) (core next : KeptCore) (rest less part : CoreState → List Event) (p0 p q : List ℕ) (h0 h k : Option (List ℕ)) →
    ((s : CoreState) → Agrees core s → rest s ≡ part s ++ less (after_all s (part s))) → Comes state all core rest p0 p h0 h →
    ((s : CoreState) → Agrees core s → PlaysOn (sections s (part s)) ends.Ok p h q k) → ((s : CoreState) → Agrees core s → Agrees next (after_all s (part s))) →
    Comes state all next less p0 q h0 k
comes_more state all core next rest less part p0 p q h0 h k cut c plays leads =
    let s = c.reached in
    record {
      reached = after_all s (part s);
      done = c.done ++ sections s (part s);
      agrees = leads s c.agrees;
      split = c.split ∙ (ap (λ x. c.done ++ x) (ap (sections s) (cut s c.agrees) ∙ sections-append (part s) (less (after_all s (part s))) s) ∙ sym (append_assoc c.done (sections s (part s)) _));
      leads = c.leads ∙ (ap (after_all s) (cut s c.agrees) ∙ after_all-append (part s) (less (after_all s (part s))) s);
      played = plays_on_twice ends.Ok c.done (sections s (part s)) p0 p q h0 h k c.played (plays s c.agrees);
    }

-- it breaks off there
pub comes_break : (end : Told) (state : CoreState) (all : List Event) (core : KeptCore) (rest less part : CoreState → List Event) (p0 p q : List ℕ) (h0 h k : Option (List ℕ)) → end ≢ ends.Ok →
    ((s : CoreState) → Agrees core s → rest s ≡ part s ++ less (after_all s (part s))) → Comes state all core rest p0 p h0 h →
    ((s : CoreState) → Agrees core s → PlaysOn (sections s (part s)) end p h q k) → PlaysOn (sections state all) end p0 h0 q k
comes_break end state all core rest less part p0 p q h0 h k other cut c plays =
    let s = c.reached in
    let part_of : List ℕ = sections s (part s) in
    let split : sections state all ≡ (c.done ++ part_of) ++ sections (after_all s (part s)) (less (after_all s (part s))) =
    c.split ∙ (ap (λ x. c.done ++ x) (ap (sections s) (cut s c.agrees) ∙ sections-append (part s) (less (after_all s (part s))) s) ∙ sym (append_assoc c.done part_of _)) in
    subst (λ b. PlaysOn b end p0 h0 q k) (sym split)
    (plays_on_break end (c.done ++ part_of) _ p0 q h0 k other (plays_on_twice end c.done part_of p0 p q h0 h k c.played (plays s c.agrees)))

-- nothing is left
pub comes_all : (state : CoreState) (all : List Event) (core : KeptCore) (rest : CoreState → List Event) (p0 p : List ℕ) (h0 h : Option (List ℕ)) → ((s : CoreState) → rest s ≡ []) → Comes state all core rest p0 p h0 h → PlaysOn (sections state all) ends.Ok p0 h0 p h
comes_all state all core rest p0 p h0 h none c =
    let split : sections state all ≡ c.done = c.split ∙ (ap (λ x. c.done ++ x) (ap (sections c.reached) (none c.reached)) ∙ append-nil c.done) in
    subst (λ b. PlaysOn b ends.Ok p0 h0 p h) (sym split) c.played

pub comes_to : (state : CoreState) (all : List Event) (core : KeptCore) (rest : CoreState → List Event) (p0 p : List ℕ) (h0 h : Option (List ℕ)) → ((s : CoreState) → rest s ≡ []) → Comes state all core rest p0 p h0 h → Agrees core (after_all state all)
comes_to state all core rest p0 p h0 h none c = subst (Agrees core) (sym (c.leads ∙ ap (after_all c.reached) (none c.reached))) c.agrees

-- Pieces.

-- one piece
pub one_taken : (most i session : ℕ) (s : CoreState) → i < most → is_piece (answer s (events.Take session)) ≡ true →
    takes_up_to (most - i) s session ≡ events.Take session ∷ takes_up_to (most - (i + 1)) (after s (events.Take session)) session
one_taken most i session s lt is =
    let left : most - i ≡ suc (most - (i + 1)) = omega (arith, lt) in
    ap (λ n. takes_up_to n s session) left
    ∙ ap (λ more. events.Take session ∷ more) (cond-true (is_piece (answer s (events.Take session))) (takes_up_to (most - (i + 1)) (after s (events.Take session)) session) [] is)

-- no piece
pub none_taken : (most i session : ℕ) (s : CoreState) → i < most → is_piece (answer s (events.Take session)) ≡ false →
    takes_up_to (most - i) s session ≡ events.Take session ∷ []
none_taken most i session s lt is =
    let left : most - i ≡ suc (most - (i + 1)) = omega (arith, lt) in
    ap (λ n. takes_up_to n s session) left
    ∙ ap (λ more. events.Take session ∷ more) (cond-false (is_piece (answer s (events.Take session))) (takes_up_to (most - (i + 1)) (after s (events.Take session)) session) [] is)

pub no_turns : (most i session : ℕ) (s : CoreState) → most ≤ i → takes_up_to (most - i) s session ≡ []
no_turns most i session s le =
    let left : most - i ≡ 0 = omega (arith, le) in
    ap (λ n. takes_up_to n s session) left

-- Sessions.

-- the sessions from this one on
abbrev pub ids_from : ℕ → List ℕ
ids_from id = range_with_len id (9 - id)

pub ids_more : (id : ℕ) (s : CoreState) → id < 9 → takes_of_all s (ids_from id) ≡ takes_of s id ++ takes_of_all (after_all s (takes_of s id)) (ids_from (id + 1))
ids_more id s h =
    let left : 9 - id ≡ suc (9 - (id + 1)) = omega (arith, h) in
    ap (λ n. takes_of_all s (range_with_len id n)) left

pub ids_none : (id : ℕ) (s : CoreState) → 9 ≤ id → takes_of_all s (ids_from id) ≡ []
ids_none id s h =
    let left : 9 - id ≡ 0 = omega (arith, h) in
    ap (λ n. takes_of_all s (range_with_len id n)) left
