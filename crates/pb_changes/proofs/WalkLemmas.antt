-- The lines of what passes a test, one after the other, and the slots that are still to be visited.
use Rattle.std.proofs.Common.{◌≡◌, ℕ, zero, suc, ◌+◌, ◌-◌, ◌<◌, ◌&&◌, Bool, true, false, cond, List, [], ◌∷◌, ◌++◌, map, Some, None, refl, ap, ◌∙◌, append_assoc, arith}
use Rattle.std.specs.List.{filter, list_all, range_with_len}
use Rattle.pb_fields.specs.declared.Slot.{Slot}
use Rattle.pb_fields.specs.Order.{next_slot, visits}
use Rattle.pb_fields.proofs.RowLemmas.{and_left, and_right}
use Rattle.pb_replies.specs.Replies.{listed}
use Rattle.pb_changes.specs.Helpers.{listed_if}

-- the next one passes, and its line is added
pub one_listed : {X : Type 0} (test : X → Bool) (line : X → List ℕ) (x : X) (xs : List X) (text text' all : List ℕ) → test x ≡ true → text' ≡ text ++ listed (line x) → text ++ listed_if test line (x ∷ xs) ≡ all → text' ++ listed_if test line xs ≡ all
one_listed test line x xs text text' all passes added whole =
    let w = rw passes at whole in
    rw (added, append_assoc text (listed (line x)) (listed_if test line xs)) w

-- the next one doesn't pass
pub none_listed : {X : Type 0} (test : X → Bool) (line : X → List ℕ) (x : X) (xs : List X) (text all : List ℕ) → test x ≡ false → text ++ listed_if test line (x ∷ xs) ≡ all → text ++ listed_if test line xs ≡ all
none_listed test line x xs text all fails whole = rw fails at whole

-- a slot is visited
pub visits_one : (k : ℕ) (slot : Slot) → k < 2000 → visits (2000 - k) (Some slot) ≡ slot ∷ visits (2000 - (k + 1)) (next_slot slot)
visits_one k slot h =
    let e : 2000 - k ≡ suc (2000 - (k + 1)) = omega arith in
    ap (λ n. visits n (Some slot)) e

-- no slot is left
pub visits_none : (n : ℕ) → visits n None ≡ []
visits_none zero = refl
visits_none (suc n) = refl

-- a place of a range
pub range_one : (k n : ℕ) → k < n → range_with_len k (n - k) ≡ k ∷ range_with_len (k + 1) (n - (k + 1))
range_one k n h =
    let e : n - k ≡ suc (n - (k + 1)) = omega arith in
    ap (range_with_len k) e

-- lists that are filtered and mapped alike
pub same_lines : {X Y : Type 0} (ok p q : X → Bool) (f g : X → Y) (xs : List X) → list_all ok xs ≡ true → ((x : X) → ok x ≡ true → p x ≡ q x) → ((x : X) → ok x ≡ true → f x ≡ g x) → map f (filter p xs) ≡ map g (filter q xs)
same_lines ok p q f g [] all tests texts = refl
same_lines ok p q f g (x ∷ xs) all tests texts =
    let rest = same_lines ok p q f g xs (and_right (ok x) _ all) tests texts in
    by (q x) (tests x (and_left _ (list_all ok xs) all) ∙ refl) rest
  where
    by : (b : Bool) → p x ≡ b → map f (filter p xs) ≡ map g (filter q xs) → map f (cond (p x) (x ∷ filter p xs) (filter p xs)) ≡ map g (cond b (x ∷ filter q xs) (filter q xs))
    by true e rest = rw (e, rest, texts x (and_left _ (list_all ok xs) all)) refl
    by false e rest = rw e rest

-- nothing passes
pub none_pass : {X : Type 0} (ok p : X → Bool) (xs : List X) → list_all ok xs ≡ true → ((x : X) → ok x ≡ true → p x ≡ false) → filter p xs ≡ []
none_pass ok p [] all fails = refl
none_pass ok p (x ∷ xs) all fails =
    rw (fails x (and_left _ (list_all ok xs) all)) (none_pass ok p xs (and_right (ok x) _ all) fails)

-- two tests, one after the other
pub filter_both : {X : Type 0} (p q : X → Bool) (xs : List X) → filter (λ x. p x && q x) xs ≡ filter q (filter p xs)
filter_both p q [] = refl
filter_both p q (x ∷ xs) = by (p x) (filter_both p q xs)
  where
    by : (b : Bool) → filter (λ y. p y && q y) xs ≡ filter q (filter p xs) → cond (b && q x) (x ∷ filter (λ y. p y && q y) xs) (filter (λ y. p y && q y) xs) ≡ filter q (cond b (x ∷ filter p xs) (filter p xs))
    by true e = rw e refl
    by false e = e

-- a test of what is mapped
pub filter_mapped : {X Y Z : Type 0} (q : Y → Bool) (f : X → Y) (g : Y → Z) (xs : List X) → map g (filter q (map f xs)) ≡ map (λ x. g (f x)) (filter (λ x. q (f x)) xs)
filter_mapped q f g [] = refl
filter_mapped q f g (x ∷ xs) = by (q (f x)) (filter_mapped q f g xs)
  where
    by : (b : Bool) → map g (filter q (map f xs)) ≡ map (λ y. g (f y)) (filter (λ y. q (f y)) xs) → map g (cond b (f x ∷ filter q (map f xs)) (filter q (map f xs))) ≡ map (λ y. g (f y)) (cond b (x ∷ filter (λ y. q (f y)) xs) (filter (λ y. q (f y)) xs))
    by true e = ap (λ l. g (f x) ∷ l) e
    by false e = e
