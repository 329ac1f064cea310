-- What passes know of one another.
use Rattle.std.proofs.Common.{◌≡◌, ℕ, ◌<◌, ◌+◌, ◌++◌, [], ◌∷◌, List, length, sym, ap, ◌∙◌, subst, refl, arith, length-append, slice_get, Some}
use Rattle.std.specs.List.{All}
use mathlib.Core.List.{IsPrefix}
use Rattle.pb_turn.specs.Seeing.{Known, Rising, before, together, entries_at}
use Rattle.atomic_table.specs.Seated.{TableId}
use Rattle.pb_turn.specs.Entering.{Holding, Holds, IsTaken, holding_of, seeing}
use Rattle.pb_turn.specs.Steps.{Carrying, Wins, holding, longer, shorter}
use Rattle.pb_turn.specs.Passing.{known, joined_of, IsJoined}
use Rattle.pb_turn.specs.Steps.{adding, leaving}
use Rattle.pb_turn.specs.Passing.{IsFree}
use Rattle.pb_turn.specs.Entering.{IsHeld}
use Rattle.pb_turn.proofs.Positions.{rising_more}
use Rattle.pb_turn.proofs.Keeps.{both_begin}
use Rattle.std.proofs.lemmas.List.Elements.{All-push, All-weaker}
use Rattle.pb_turn.proofs.Positions.{entries_stay}

pub same_entries : {E : Type 0} (seen history : List E) (made : List ℕ) → IsPrefix seen history → All (λ n. n < length seen) made → entries_at history made ≡ entries_at seen made
same_entries seen history made p b = ap (λ (l : List _). entries_at l made) (sym p.1) ∙ entries_stay seen p.0 made b

get_last : {E : Type 0} (es : List E) (e : E) → slice_get (es ++ e ∷ []) (length es) ≡ Some e
get_last [] e = refl
get_last (x ∷ es) e = get_last es e

-- the entries at one more position are one more
entries_more : {E : Type 0} (history : List E) (made : List ℕ) (n : ℕ) (e : E) → slice_get history n ≡ Some e → entries_at history (made ++ n ∷ []) ≡ entries_at history made ++ e ∷ []
entries_more history [] n e at = ap (λ o. before o []) at
entries_more {E} history (k ∷ made) n e at = ap (before (slice_get history k)) (entries_more history made n e at) ∙ behind (slice_get history k)
  where
    behind : (o : Rattle.std.specs.Prelude.Option E) → before o (entries_at history made ++ e ∷ []) ≡ before o (entries_at history made) ++ e ∷ []
    behind Rattle.std.specs.Prelude.None = refl
    behind (Rattle.std.specs.Prelude.Some x) = refl

-- an entry that is added is one more call
pub added_call : {E : Type 0} (seen : List E) (made : List ℕ) (e : E) → All (λ n. n < length seen) made → entries_at (seen ++ e ∷ []) (made ++ length seen ∷ []) ≡ entries_at seen made ++ e ∷ []
added_call seen made e b = entries_more (seen ++ e ∷ []) made (length seen) e (get_last seen e) ∙ ap (λ es. es ++ e ∷ []) (entries_stay seen (e ∷ []) made b)

-- what a pass has that was made of two
pub is_joined : {E V : Type 0} (p q : Known E V) → IsPrefix (shorter p.seen q.seen) (longer p.seen q.seen) → Rising (together p.made q.made) → All (λ n. n < length (longer p.seen q.seen)) (together p.made q.made)
    → All (λ n. n < length p.seen) p.made → All (λ n. n < length q.seen) q.made → IsJoined p q (joined_of p q)
is_joined p q h r b mine theirs = let both = both_begin p.seen q.seen h in record {
  front = both.0;
  other_front = both.1;
  rises = r;
  below = b;
  calls = same_entries p.seen (longer p.seen q.seen) p.made both.0 mine;
  other_calls = same_entries q.seen (longer p.seen q.seen) q.made both.1 theirs;
}

-- who won has the turn
pub won : {E V O : Type 0} (origin : V → O) (stands : V → List E → Type 0) (id : TableId) (m n : Carrying E V) (held : Holding E V) → All (λ k. k < length m.0.seen) m.0.made
    → Wins origin stands m n → IsTaken id n held → Holds origin stands (known id m.0) held × (held.pass.lost ≡ m.0.lost)
won {E} {V} {O} origin stands id m n held below (log, value, after, begins, ok, from) (taken, carried, is) =
    let same : taken ≡ value = one_value taken value m.1 (sym carried ∙ ap (λ (k : Carrying E V). k.1) after) in
    let e : held ≡ holding_of id (holding m.0 log) value = is ∙ (ap (λ (k : Carrying E V). holding_of id k.0 taken) after ∙ ap (λ (x : V). holding_of id (holding m.0 log) x) same) in
    subst (λ (h : Holding E V). Holds origin stands (known id m.0) h × (h.pass.lost ≡ m.0.lost)) (sym e)
    (record { same = refl; begins = begins; is_value = ok; has_origin = from; calls = same_entries m.0.seen log m.0.made begins below }, refl)
  where
    first : Rattle.std.specs.Prelude.Option V → List (ℕ × Rattle.std.specs.Prelude.Option V) → Rattle.std.specs.Prelude.Option V
    first other [] = other
    first other (x ∷ xs) = x.1

    one_value : (a b : V) (more : List (ℕ × Rattle.std.specs.Prelude.Option V)) → (0, Some a) ∷ [] ≡ (0, Some b) ∷ more → a ≡ b
    one_value a b more e = let some : Some a ≡ Some b = ap (first Rattle.std.specs.Prelude.None) e in cc some

-- a pass that lost on the way has the turn all the same
pub held_after : {E V O : Type 0} (origin : V → O) (stands : V → List E → Type 0) (p q : Known E V) (held : Holding E V) → q ≡ seeing p p.seen q.lost → Holds origin stands q held → Holds origin stands p held
held_after {E} {V} origin stands p q held is h = from (subst (λ (k : Known E V). Holds origin stands k held) is h)
  where
    from : Holds origin stands (seeing p p.seen q.lost) held → Holds origin stands p held
    from h = record { same = h.same; begins = h.begins; is_value = h.is_value; has_origin = h.has_origin; calls = h.calls }

-- a seat that has added an entry and no longer holds the turn
pub freed : {E V : Type 0} (m : Carrying E V) (e : E) → IsHeld m → IsFree (leaving (adding m.0 e), [])
freed m e h = record {
  carries = refl;
  holds = refl;
  parts = h.parts;
  rises = rising_more m.0.made (length m.0.seen) h.rises h.below;
  below = let long : length (m.0.seen ++ e ∷ []) ≡ length m.0.seen + 1 = length-append m.0.seen (e ∷ []) in
      All-push (λ n. n < length (m.0.seen ++ e ∷ [])) m.0.made (length m.0.seen) (All-weaker (λ n. n < length m.0.seen) (λ n. n < length (m.0.seen ++ e ∷ [])) (λ n lt. omega arith) m.0.made h.below) (omega arith);
}
