-- What is told of the past says what a report says over it.
use Rattle.std.proofs.Common.{◌≡◌, ℕ, suc, ◌<◌, ◌≤◌, ◌&&◌, ◌||◌, ◌==◌, not, Bool, true, false, cond, eqb, ltb, leb, List, [], ◌∷◌, length, refl, ap, sym, ◌∙◌, arith}
use Rattle.std.specs.Ordering.{int_eq}
use Rattle.std.proofs.lemmas.Bool.{lt-ltb, le-ltb, ltb-true, le-leb, leb-true}
use Rattle.std.proofs.lemmas.Bool.Decides.{Decides-eqb, nat_tests}
use Rattle.pb_fields.specs.declared.Slot.{Slot}
use Rattle.pb_fields.specs.Slots.{IsSlot}
use Rattle.pb_buses.specs.declared.Bus.{Bus}
use Rattle.pb_buses.specs.Buses.{value, last_change}
use Rattle.pb_fields.specs.Assigned.{is_same, last_assignment, last_place, told_place}
use Rattle.pb_changes.specs.Past.{Past, Told, AgreesWithPast}
use Rattle.pb_changes.specs.Report.{is_named_after, is_changed_after}

-- two tests that hold of the same
pub same_tests : (a b : Bool) → (a ≡ true → b ≡ true) → (b ≡ true → a ≡ true) → a ≡ b
same_tests true b h g = sym (h refl)
same_tests false true h g = g refl
same_tests false false h g = refl

or_left : (a b : Bool) → a ≡ true → (a || b) ≡ true
or_left true b h = refl
or_left false b h = cc

or_right : (a b : Bool) → b ≡ true → (a || b) ≡ true
or_right true b h = refl
or_right false b h = h

-- a test that holds from some number on
or_latest : (now rest hit : Bool) → (rest ≡ true → now ≡ true) → ((now && hit) || rest) ≡ cond hit now rest
or_latest true rest true h = refl
or_latest true rest false h = refl
or_latest false true true h = absurd_of (h refl)
  where
    absurd_of : false ≡ true → ((false && true) || true) ≡ cond true false true
    absurd_of e = cc
or_latest false false true h = refl
or_latest false rest false h = refl

-- Assignments.

-- a place is after the first n, or the last that is told or later
abbrev pub reaches : ℕ → ℕ → Bool
reaches n place = ltb n place || leb last_place place

reaches_more : (n p q : ℕ) → p ≤ q → reaches n p ≡ true → reaches n q ≡ true
reaches_more n p q h e = by (ltb n p) refl
  where
    by : (b : Bool) → ltb n p ≡ b → (ltb n q || leb last_place q) ≡ true
    by true t = let below : n < p = ltb-true n p t in or_left (ltb n q) _ (lt-ltb n q (omega arith))
    by false t =
        let late : leb last_place p ≡ true = rw t at e in
        let from : last_place ≤ p = leb-true last_place p late in
        or_right (ltb n q) _ (le-leb last_place q (omega arith))

pub last_below : (slot : Slot) (xs : List Slot) → last_assignment slot xs ≤ length xs
last_below slot [] = omega arith
last_below slot (x ∷ xs) = by (is_same slot x) (last_below slot xs)
  where
    by : (b : Bool) → last_assignment slot xs ≤ length xs → cond b (suc (length xs)) (last_assignment slot xs) ≤ suc (length xs)
    by true h = omega arith
    by false h = omega (arith, h)

pub named_by_last : (n : ℕ) (slot : Slot) (xs : List Slot) → is_named_after n slot xs ≡ reaches n (last_assignment slot xs)
named_by_last n slot [] =
    let e : ltb n 0 ≡ false = le-ltb n 0 (omega arith) in
    rw e refl
named_by_last n slot (x ∷ xs) =
    let rest = named_by_last n slot xs in
    let more : is_named_after n slot xs ≡ true → reaches n (suc (length xs)) ≡ true =
    λ e. reaches_more n (last_assignment slot xs) (suc (length xs)) (omega (arith, last_below slot xs)) (sym rest ∙ e) in
    or_latest (reaches n (suc (length xs))) (is_named_after n slot xs) (is_same slot x) more
    ∙ by (is_same slot x) rest
  where
    by : (b : Bool) → is_named_after n slot xs ≡ reaches n (last_assignment slot xs) → cond b (reaches n (suc (length xs))) (is_named_after n slot xs) ≡ reaches n (cond b (suc (length xs)) (last_assignment slot xs))
    by true e = refl
    by false e = e

-- a number before the last that is told
early_test : (m q : ℕ) → q < last_place → ltb (told_place m) q ≡ ltb m q
early_test m q h =
    same_tests (ltb (told_place m) q) (ltb m q)
    (λ e. let below : told_place m < q = ltb-true (told_place m) q e in lt-ltb m q (omega arith))
    (λ e. let below : m < q = ltb-true m q e in lt-ltb (told_place m) q (omega arith))

-- numbers as far as they are told
told_reaches : (n p : ℕ) → (ltb (told_place n) (told_place p) || told_place p == last_place) ≡ reaches n p
told_reaches n p = by (leb last_place p) refl
  where
    by : (b : Bool) → leb last_place p ≡ b → (ltb (told_place n) (told_place p) || told_place p == last_place) ≡ (ltb n p || b)
    by true e =
        let late : last_place ≤ p = leb-true last_place p e in
        let top : told_place p ≡ last_place = omega arith in
        let same : eqb (told_place p) last_place ≡ true = (Decides-eqb (told_place p) last_place).1 top in
        or_right (ltb (told_place n) (told_place p)) _ same ∙ sym (or_right (ltb n p) true refl)
    by false e =
        let early : p < last_place = grind (arith, nat_tests) in
        let itself : told_place p ≡ p = omega arith in
        let other : eqb p last_place ≡ false = grind (arith, nat_tests) in
        rw (itself, other) (ap (λ b. b || false) (early_test n p early))

-- what is told of a slot is later than the kept number exactly where it is named later
pub assigned_later : (told : Told) (past : Past) (n : ℕ) (slot : Slot) → AgreesWithPast told past → IsSlot slot → (ltb (told_place n) (told.assigned_at slot) || told.assigned_at slot == last_place) ≡ is_named_after n slot past.assigned
assigned_later told past n slot agrees is =
    rw (agrees.assigned slot is)
    (told_reaches n (last_assignment slot past.assigned) ∙ sym (named_by_last n slot past.assigned))

-- Bus entries.

pub change_below : (entry : ℕ) (bus : Bus) (past : List Bus) → last_change entry (bus ∷ past) ≤ length past
change_below entry bus [] = omega arith
change_below entry bus (before ∷ past) =
    by (int_eq (value bus entry) (value before entry)) (change_below entry before past)
  where
    by : (b : Bool) → last_change entry (before ∷ past) ≤ length past → cond b (last_change entry (before ∷ past)) (suc (length past)) ≤ suc (length past)
    by true h = omega (arith, h)
    by false h = omega arith

ltb_more : (n p q : ℕ) → p ≤ q → ltb n p ≡ true → ltb n q ≡ true
ltb_more n p q h e = let below : n < p = ltb-true n p e in lt-ltb n q (omega arith)

pub changed_by_last : (tick entry : ℕ) (states : List Bus) → is_changed_after tick entry states ≡ ltb tick (last_change entry states)
changed_by_last tick entry [] = sym (le-ltb tick 0 (omega arith))
changed_by_last tick entry (bus ∷ []) = sym (le-ltb tick 0 (omega arith))
changed_by_last tick entry (bus ∷ before ∷ past) =
    let rest = changed_by_last tick entry (before ∷ past) in
    let more : is_changed_after tick entry (before ∷ past) ≡ true → ltb tick (suc (length past)) ≡ true =
    λ e. ltb_more tick (last_change entry (before ∷ past)) (suc (length past)) (omega (arith, change_below entry before past)) (sym rest ∙ e) in
    or_latest (ltb tick (suc (length past))) (is_changed_after tick entry (before ∷ past)) (not (int_eq (value bus entry) (value before entry))) more
    ∙ by (int_eq (value bus entry) (value before entry)) rest
  where
    by : (b : Bool) → is_changed_after tick entry (before ∷ past) ≡ ltb tick (last_change entry (before ∷ past)) → cond (not b) (ltb tick (suc (length past))) (is_changed_after tick entry (before ∷ past)) ≡ ltb tick (cond b (last_change entry (before ∷ past)) (suc (length past)))
    by true e = e
    by false e = refl
