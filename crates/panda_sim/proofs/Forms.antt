-- Which form the words have, by the first of them.
use Rattle.std.proofs.Common.{◌≡◌, ◌≢◌, ℕ, ◌<◌, List, [], ◌∷◌, length, codes, Option, ◌⊎◌, ◌↔◌, inl, inr, refl, sym, ap, subst, ◌∙◌, arith}
use Rattle.pb_bench.specs.Asks.{Asks}
use Rattle.panda_sim.specs.declared.statuses.Status.{Status}
use Rattle.panda_sim.specs.declared.statuses.Status.TheVariants as statuses
use Rattle.panda_sim.specs.Run.{IsReplay, Leaves, Makes}
use Rattle.panda_sim.specs.Made.{IsAsked, IsKnown}
use Rattle.panda_sim.specs.Replayed.{BeginWith, EndsUnread}

replay_begins : (words : List (List ℕ)) → IsReplay words → BeginWith (codes "replay") words
replay_begins words e = subst (BeginWith (codes "replay")) (sym e) refl

pub asks_begins : (word : List ℕ) (words : List (List ℕ)) (n seed : ℕ) → Asks word words n seed → BeginWith word words
asks_begins word words n seed a = subst (BeginWith word) (sym a.spelled) refl

pub asked_begins : (word : List ℕ) (words : List (List ℕ)) → IsAsked word words → BeginWith word words
asked_begins word words a = asks_begins word words a.0 a.1 a.2

one_first : (a b : List ℕ) (words : List (List ℕ)) → BeginWith a words → BeginWith b words → a ≡ b
one_first a b [] h k = absurd h
one_first a b (first ∷ more) h k = sym h ∙ k

-- the three words have 4, 5 and 6 letters
apart : (a b : List ℕ) (words : List (List ℕ)) → length a < length b → BeginWith a words → ¬ (BeginWith b words)
apart a b words less h k = omega (arith, less, ap length (one_first a b words h k))

pub make_isnt_replay : (words : List (List ℕ)) → BeginWith (codes "make") words → ¬ (IsReplay words)
make_isnt_replay words h e = apart (codes "make") (codes "replay") words (omega arith) h (replay_begins words e)

pub bench_isnt_replay : (words : List (List ℕ)) → BeginWith (codes "bench") words → ¬ (IsReplay words)
bench_isnt_replay words h e = apart (codes "bench") (codes "replay") words (omega arith) h (replay_begins words e)

pub make_isnt_bench : (words : List (List ℕ)) → BeginWith (codes "make") words → ¬ (BeginWith (codes "bench") words)
make_isnt_bench words h k = apart (codes "make") (codes "bench") words (omega arith) h k

-- what is known where the form is this one
pub known_make : (words : List (List ℕ)) → BeginWith (codes "make") words → IsKnown words → IsAsked (codes "make") words
known_make words h (inl e) = absurd (make_isnt_replay words h e)
known_make words h (inr (inl a)) = a
known_make words h (inr (inr a)) = absurd (make_isnt_bench words h (asked_begins (codes "bench") words a))

pub known_bench : (words : List (List ℕ)) → BeginWith (codes "bench") words → IsKnown words → IsAsked (codes "bench") words
known_bench words h (inl e) = absurd (bench_isnt_replay words h e)
known_bench words h (inr (inl a)) = absurd (make_isnt_bench words (asked_begins (codes "make") words a) h)
known_bench words h (inr (inr a)) = a

pub known_replay : (words : List (List ℕ)) → ¬ (BeginWith (codes "make") words) → ¬ (BeginWith (codes "bench") words) → IsKnown words → IsReplay words
known_replay words m b (inl e) = e
known_replay words m b (inr (inl a)) = absurd (m (asked_begins (codes "make") words a))
known_replay words m b (inr (inr a)) = absurd (b (asked_begins (codes "bench") words a))

-- a wrong use is told by the one form that the words may have
pub usage_by : (status : Status) (This All : Type 0) → (status ≡ statuses.Usage ↔ ¬ This) → (This → All) → (All → This) → (status ≡ statuses.Usage ↔ ¬ All)
usage_by status This All h wider back = (λ e all. h.0 e (back all), λ none. h.1 (λ this. none (wider this)))

pub unread_fault : (status : Status) → EndsUnread status → ¬ (status ≡ statuses.ReadFault)
unread_fault status h e = subst EndsUnread e h

-- what a wrong use leaves
pub usage_leaves : (status : Status) (given left held now : Option (List ℕ)) → Leaves status given left held now → status ≡ statuses.Usage → (left ≡ given) × (now ≡ held)
usage_leaves status given left held now h is = subst (λ s. Leaves s given left held now) is h

-- a run that played a script made this, however it ends
pub makes_script : (status : Status) (Nothing This : Type 0) → EndsUnread status → status ≢ statuses.Usage → This → Makes status Nothing This
makes_script statuses.Ok Nothing This ends known h = h
makes_script statuses.Usage Nothing This ends known h = absurd (known refl)
makes_script (statuses.Script line cause) Nothing This ends known h = absurd ends
makes_script statuses.ReadFault Nothing This ends known h = absurd ends
makes_script statuses.WriteFault Nothing This ends known h = h
makes_script statuses.OutOfMemory Nothing This ends known h = inr h
makes_script (statuses.EventLimit tick) Nothing This ends known h = h
makes_script statuses.PortFault Nothing This ends known h = ends
makes_script statuses.SpawnFault Nothing This ends known h = ends
