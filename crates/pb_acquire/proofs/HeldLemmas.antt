-- Which of those that are over are held: when one more is over, and when readers change.
use Rattle.std.proofs.Common.{◌≡◌, refl, sym, ap, subst, ◌∙◌, ℕ, zero, suc, ◌+◌, ◌<◌, Bool, true, false, cond, ◌||◌, ◌==◌, List, [], ◌∷◌, ◌++◌, length, map, get_or, set, Option, Some, None, IsSome, arith}
use Rattle.std.proofs.lemmas.Bool.{both_ways, or_left, or_right, eq-eqb}
use Rattle.std.specs.List.{filter, find, slice_get}
use Rattle.std.specs.Option.{option_map, option_to_list}
use Rattle.pb_acquire.specs.declared.readers.Reader.{Reader}
use Rattle.pb_acquire.specs.Readers.{is_needed, open_needs, needs}
use Rattle.pb_acquire.specs.Acquisitions.{Acquisition, Placed, placed, held_of}
use Rattle.pb_acquire.specs.Kept.{Over, over_of, stored_if}

abbrev pub placed_at : ℕ → Acquisition → Placed
placed_at before acquisition = record { before = before; acquisition = acquisition }

-- One more is over.

one_stored : (b : Bool) (p : Placed) → map over_of (cond b (p ∷ []) []) ≡ stored_if b (over_of p)
one_stored true p = refl
one_stored false p = refl

one_before :
    (b : Bool) (p : Placed) (more few : List Placed) (stored : List Over) → map over_of more ≡ map over_of few ++ stored →
    map over_of (cond b (p ∷ more) more) ≡ map over_of (cond b (p ∷ few) few) ++ stored
one_before true p more few stored e = ap (λ os. over_of p ∷ os) e
one_before false p more few stored e = e

stored_from :
    (readers : List (Option Reader)) (n : ℕ) (xs : List Acquisition) (a : Acquisition) (place : ℕ) → place ≡ n + length xs →
    map over_of (filter (λ p. is_needed readers p.before) (placed n (xs ++ a ∷ [])))
    ≡ map over_of (filter (λ p. is_needed readers p.before) (placed n xs)) ++ stored_if (is_needed readers place) (over_of (placed_at place a))
stored_from readers n [] a place e =
    let same : place ≡ n = omega (arith, e) in rw same (one_stored (is_needed readers n) (placed_at n a))
stored_from readers n (x ∷ xs) a place e =
    let rest = stored_from readers (n + 1) xs a place (omega (arith, e)) in
    one_before (is_needed readers n) (placed_at n x) _ _ _ rest

pub one_more_over :
    (readers : List (Option Reader)) (xs : List Acquisition) (a : Acquisition) →
    map over_of (held_of readers (xs ++ a ∷ []))
    ≡ map over_of (held_of readers xs) ++ stored_if (is_needed readers (length xs)) (over_of (placed_at (length xs) a))
one_more_over readers xs a = stored_from readers 0 xs a (length xs) (omega arith)

-- Readers change, and none needs more of those that are over than there was need of before.

one_kept :
    (test : Over → Bool) (p : Placed) (more few : List Placed) (before after : Bool) → test (over_of p) ≡ after →
    (after ≡ true → before ≡ true) → filter test (map over_of more) ≡ map over_of few →
    filter test (map over_of (cond before (p ∷ more) more)) ≡ map over_of (cond after (p ∷ few) few)
one_kept test p more few true true e only rest = rw e (ap (λ os. over_of p ∷ os) rest)
one_kept test p more few true false e only rest = rw e rest
one_kept test p more few false true e only rest = absurd (both_ways false refl (only refl))
one_kept test p more few false false e only rest = rest

kept_from :
    (old new : List (Option Reader)) (n : ℕ) (xs : List Acquisition) →
    ((place : ℕ) → place < n + length xs → is_needed new place ≡ true → is_needed old place ≡ true) →
    filter (λ o. is_needed new o.before) (map over_of (filter (λ p. is_needed old p.before) (placed n xs)))
    ≡ map over_of (filter (λ p. is_needed new p.before) (placed n xs))
kept_from old new n [] only = refl
kept_from old new n (x ∷ xs) only =
    let rest = kept_from old new (n + 1) xs (λ place below need. only place (omega (arith, below)) need) in
    one_kept (λ o. is_needed new o.before) (placed_at n x) _ _ (is_needed old n) (is_needed new n) refl (only n (omega arith)) rest

pub let_go_of :
    (old new : List (Option Reader)) (xs : List Acquisition) →
    ((place : ℕ) → place < length xs → is_needed new place ≡ true → is_needed old place ≡ true) →
    filter (λ o. is_needed new o.before) (map over_of (held_of old xs)) ≡ map over_of (held_of new xs)
let_go_of old new xs only = kept_from old new 0 xs (λ place below need. only place (omega (arith, below)) need)

-- who is changed at one id
or_of_left : (x y z : Bool) → (x ≡ true → y ≡ true) → (x || z) ≡ true → (y || z) ≡ true
or_of_left x y true only either = or_right y true refl
or_of_left true y false only either = or_left y false (only refl)
or_of_left false y false only either = absurd (both_ways false refl either)

or_of_right : (x y z : Bool) → (y ≡ true → z ≡ true) → (x || y) ≡ true → (x || z) ≡ true
or_of_right true y z only either = refl
or_of_right false y z only either = only either

pub needed_before :
    (readers : List (Option Reader)) (i : ℕ) (reader : Option Reader) (place : ℕ) →
    (open_needs place reader ≡ true → open_needs place (get_or readers i None) ≡ true) →
    is_needed (set readers i reader) place ≡ true → is_needed readers place ≡ true
needed_before [] i reader place only need = need
needed_before (first ∷ others) zero reader place only need =
    or_of_left (open_needs place reader) (open_needs place first) (is_needed others place) only need
needed_before (first ∷ others) (suc i) reader place only need =
    or_of_right (open_needs place first) (is_needed (set others i reader) place) (is_needed others place)
    (needed_before others i reader place only) need

-- what a reader needs is needed
pub needed_by :
    (readers : List (Option Reader)) (i : ℕ) (reader : Reader) (place : ℕ) → get_or readers i None ≡ Some reader →
    needs reader place ≡ true → is_needed readers place ≡ true
needed_by [] i reader place is need = cc
needed_by (first ∷ others) zero reader place is need =
    or_left (open_needs place first) (is_needed others place) (subst (λ o. open_needs place o ≡ true) (sym is) need)
needed_by (first ∷ others) (suc i) reader place is need =
    or_right (open_needs place first) (is_needed others place) (needed_by others i reader place is need)

-- To find one that is held.

found_first :
    (b : Bool) (test : Over → Bool) (p : Placed) (others : List Placed) → b ≡ true → test (over_of p) ≡ true →
    find test (map over_of (cond b (p ∷ others) others)) ≡ Some (over_of p)
found_first true test p others need e = rw e refl
found_first false test p others need e = absurd (both_ways false refl need)

found_later :
    (b : Bool) (test : Over → Bool) (p : Placed) (others : List Placed) → test (over_of p) ≡ false →
    find test (map over_of (cond b (p ∷ others) others)) ≡ find test (map over_of others)
found_later true test p others e = rw e refl
found_later false test p others e = refl

found_from :
    (readers : List (Option Reader)) (n : ℕ) (xs : List Acquisition) (i place : ℕ) → place ≡ n + i → i < length xs →
    is_needed readers place ≡ true →
    find (λ o. o.before == place) (map over_of (filter (λ p. is_needed readers p.before) (placed n xs)))
    ≡ option_map (λ a. over_of (placed_at place a)) (slice_get xs i)
found_from readers n [] i place e below need = absurd (omega (arith, below))
found_from readers n (x ∷ xs) zero place e below need =
    let same : place ≡ n = omega (arith, e) in
    let need_n : is_needed readers n ≡ true = rw (← same) need in
    rw same (found_first (is_needed readers n) (λ o. o.before == n) (placed_at n x) _ need_n (eq-eqb n n refl))
found_from readers n (x ∷ xs) (suc i) place e below need =
    let other : (n == place) ≡ false = grind arith in
    let rest = found_from readers (n + 1) xs i place (omega (arith, e)) (omega (arith, below)) need in
    found_later (is_needed readers n) (λ o. o.before == place) (placed_at n x) _ other ∙ rest

pub found_held :
    (readers : List (Option Reader)) (xs : List Acquisition) (place : ℕ) → place < length xs → is_needed readers place ≡ true →
    find (λ o. o.before == place) (map over_of (held_of readers xs)) ≡ option_map (λ a. over_of (placed_at place a)) (slice_get xs place)
found_held readers xs place below need = found_from readers 0 xs place place (omega arith) below need

-- Those that are over, and then the one that runs.

pub armed_over :
    (xs : List Acquisition) (running : Option Acquisition) (i : ℕ) → i < length xs →
    slice_get (xs ++ option_to_list running) i ≡ slice_get xs i
armed_over [] running i below = absurd (omega (arith, below))
armed_over (x ∷ xs) running zero below = refl
armed_over (x ∷ xs) running (suc i) below = armed_over xs running i (omega (arith, below))

just_running : (running : Option Acquisition) → slice_get (option_to_list running) 0 ≡ running
just_running None = refl
just_running (Some a) = refl

pub armed_running :
    (xs : List Acquisition) (running : Option Acquisition) (i : ℕ) → i ≡ length xs →
    slice_get (xs ++ option_to_list running) i ≡ running
armed_running [] running i e = rw e (just_running running)
armed_running (x ∷ xs) running zero e = absurd (omega (arith, e))
armed_running (x ∷ xs) running (suc i) e = armed_running xs running i (omega (arith, e))

none_later : (running : Option Acquisition) (i : ℕ) → 0 < i → slice_get (option_to_list running) i ≡ None
none_later None i above = refl
none_later (Some a) zero above = absurd (omega (arith, above))
none_later (Some a) (suc i) above = refl

pub armed_later :
    (xs : List Acquisition) (running : Option Acquisition) (i : ℕ) → length xs < i →
    slice_get (xs ++ option_to_list running) i ≡ None
armed_later [] running i above = none_later running i above
armed_later (x ∷ xs) running zero above = absurd (omega (arith, above))
armed_later (x ∷ xs) running (suc i) above = armed_later xs running i (omega (arith, above))

pub some_over : (xs : List Acquisition) (i : ℕ) → i < length xs → IsSome (slice_get xs i)
some_over [] i below = absurd (omega (arith, below))
some_over (x ∷ xs) zero below = refl
some_over (x ∷ xs) (suc i) below = some_over xs i (omega (arith, below))
