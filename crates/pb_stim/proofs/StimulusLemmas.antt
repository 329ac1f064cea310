-- Rows at the end of a stimulus, and values where rows come later.
use Rattle.std.proofs.Common.{true, ◌+◌, take, ap, sym, ◌∙◌, Some, None, add-one, ◌≡◌, ℕ, zero, suc, ◌<◌, ◌≤◌, ◌==◌, false, List, [], ◌∷◌, ◌++◌, length, get_or, drop, ℤ, pos, refl, arith}
use Rattle.std.specs.Prelude.{if◌then◌else◌}
use Rattle.std.specs.List.{AllByRecursion, AllWithin}
use Rattle.std.specs.List.Sorted.{IsNonDecreasingBy}
use Rattle.std.proofs.lemmas.Bool.{lt-ltb, le-ltb, leb-true, leb-false}
use Rattle.std.proofs.Math.Dec.{leb}
use Rattle.std.proofs.lemmas.Bool.Decides.{nat_tests}
use Rattle.std.proofs.lemmas.List.{take-append-drop}
use Rattle.pb_stim.specs.declared.stimuli.Row.{Row}
use Rattle.pb_stim.specs.Stimulus.{NeverFall, last_tick, value_after, value_at, counts, next_tick, IsRow, AreRows}

-- one more row
pub NeverFall-push : (rows : List Row) (tick : ℕ) (row : Row) → NeverFall tick rows → last_tick tick rows ≤ row.tick → NeverFall tick (rows ++ row ∷ [])
NeverFall-push [] tick row h le = (le, tt)
NeverFall-push (first ∷ rows) tick row h le = (h.0, NeverFall-push rows first.tick row h.1 le)

-- the rows of a front, and then the others
pub value_after-append : (rows more : List Row) (value : ℤ) (target tick : ℕ) → value_after value (rows ++ more) target tick ≡ value_after (value_after value rows target tick) more target tick
value_after-append [] more value target tick = refl
value_after-append (row ∷ rows) more value target tick = value_after-append rows more (if counts target tick row then row.value else value) target tick

-- a row that comes later doesn't count
pub later_counts_not : (target tick : ℕ) (row : Row) → tick < row.tick → counts target tick row ≡ false
later_counts_not target tick row h = grind (arith, nat_tests)

-- a row that has come counts for its target
pub past_counts : (target tick : ℕ) (row : Row) → row.tick ≤ tick → counts target tick row ≡ (row.target == target)
past_counts target tick row h = grind (arith, nat_tests)

-- rows that all come later change nothing
pub value_after-coming : (rows : List Row) (value : ℤ) (target tick : ℕ) → AllByRecursion (λ (row : Row). tick < row.tick) rows → value_after value rows target tick ≡ value
value_after-coming [] value target tick h = refl
value_after-coming (row ∷ rows) value target tick h =
    rw (later_counts_not target tick row h.0) (value_after-coming rows value target tick h.1)

-- rows that have all come count as much at a later tick
pub value_after-past : (rows : List Row) (value : ℤ) (target tick later : ℕ) → tick ≤ later → AllByRecursion (λ (row : Row). row.tick ≤ tick) rows → value_after value rows target later ≡ value_after value rows target tick
value_after-past [] value target tick later le h = refl
value_after-past (row ∷ rows) value target tick later le h =
    rw (past_counts target tick row h.0, past_counts target later row (omega (arith, h.0))) (value_after-past rows _ target tick later le h.1)

-- all rows of a list that never falls come later where the first does
coming_all : (rows : List Row) (from tick : ℕ) → NeverFall from rows → tick < from → AllByRecursion (λ (row : Row). tick < row.tick) rows
coming_all [] from tick h lt = tt
coming_all (row ∷ rows) from tick h lt =
    let here : tick < row.tick = omega (arith, h.0) in
    (here, coming_all rows row.tick tick h.1 here)

-- all rows from one that comes later on do
pub coming_from : (rows : List Row) (from place tick : ℕ) (d : Row) → NeverFall from rows → place < length rows → tick < (get_or rows place d).tick → AllByRecursion (λ (row : Row). tick < row.tick) (drop place rows)
coming_from [] from place tick d h within lt = absurd (omega arith)
coming_from (row ∷ rows) from zero tick d h within lt = (lt, coming_all rows row.tick tick h.1 lt)
coming_from (row ∷ rows) from (suc place) tick d h within lt = coming_from rows row.tick place tick d h.1 (omega arith) lt

-- what holds of each row of a front and of the next
pub AllByRecursion-push : {X : Type 0} (P : X → Type 0) (xs : List X) (x : X) → AllByRecursion P xs → P x → AllByRecursion P (xs ++ x ∷ [])
AllByRecursion-push P [] x h p = (p, tt)
AllByRecursion-push P (y ∷ xs) x h p = (h.0, AllByRecursion-push P xs x h.1 p)

-- a row of the list
pub row_at : (P : Row → Type 0) (rows : List Row) (i : ℕ) (d : Row) → AllByRecursion P rows → i < length rows → P (get_or rows i d)
row_at P [] i d h within = absurd (omega arith)
row_at P (row ∷ rows) zero d h within = h.0
row_at P (row ∷ rows) (suc i) d h within = row_at P rows i d h.1 (omega arith)

-- no row comes before the tick below which they don't fall
row_from :
    (rows : List Row) (from j : ℕ) (d : Row) → NeverFall from rows → j < length rows → from ≤ (get_or rows j d).tick
row_from [] from j d h within = absurd (omega arith)
row_from (row ∷ rows) from zero d h within = h.0
row_from (row ∷ rows) from (suc j) d h within = omega (arith, h.0, row_from rows row.tick j d h.1 (omega arith))

-- the ticks never fall, said of any two rows
pub never_falls : (rows : List Row) (from : ℕ) → NeverFall from rows → IsNonDecreasingBy (λ (row : Row). row.tick) rows
never_falls [] from h i j d le within = absurd (omega arith)
never_falls (row ∷ rows) from h zero zero d le within = omega arith
never_falls (row ∷ rows) from h zero (suc j) d le within = row_from rows row.tick j d h.1 (omega arith)
never_falls (row ∷ rows) from h (suc i) zero d le within = absurd (omega arith)
never_falls (row ∷ rows) from h (suc i) (suc j) d le within =
    never_falls rows row.tick h.1 i j d (omega arith) (omega arith)

-- what a search for a tick finds
pub past_front :
    (rows : List Row) (tick i : ℕ) → AllWithin (λ (row : Row). leb row.tick tick ≡ true) rows 0 i → i ≤ length rows →
    AllByRecursion (λ (row : Row). row.tick ≤ tick) (take i rows)
past_front rows tick zero h within = tt
past_front [] tick (suc i) h within = absurd (omega arith)
past_front (row ∷ rows) tick (suc i) h within = (
  leb-true row.tick tick (h 0 row (omega arith) (omega arith)),
  past_front rows tick i (λ k d low high. h (suc k) d (omega arith) (omega arith)) (omega arith),
)

pub coming_back :
    (rows : List Row) (tick i : ℕ) → AllWithin (λ (row : Row). leb row.tick tick ≡ false) rows i (length rows) →
    AllByRecursion (λ (row : Row). tick < row.tick) (drop i rows)
coming_back [] tick zero h = tt
coming_back [] tick (suc i) h = tt
coming_back (row ∷ rows) tick zero h = (
  leb-false row.tick tick (h 0 row (omega arith) (omega arith)),
  coming_back rows tick zero (λ k d low high. h (suc k) d (omega arith) (omega arith)),
)
coming_back (row ∷ rows) tick (suc i) h =
    coming_back rows tick i (λ k d low high. h (suc k) d (omega arith) (omega arith))

-- the tick of the first row that comes later
pub next_at :
    (rows : List Row) (tick i : ℕ) (d : Row) →
    AllByRecursion (λ (row : Row). row.tick ≤ tick) (take i rows) →
    AllByRecursion (λ (row : Row). tick < row.tick) (drop i rows) →
    i < length rows → Some (get_or rows i d).tick ≡ next_tick rows tick
next_at [] tick i d past coming within = absurd (omega arith)
next_at (row ∷ rows) tick zero d past coming within = rw (lt-ltb tick row.tick coming.0) refl
next_at (row ∷ rows) tick (suc i) d past coming within =
    rw (le-ltb tick row.tick past.0) (next_at rows tick i d past.1 coming (omega arith))

pub next_none :
    (rows : List Row) (tick i : ℕ) → AllByRecursion (λ (row : Row). row.tick ≤ tick) (take i rows) → length rows ≤ i →
    None ≡ next_tick rows tick
next_none [] tick i past all = refl
next_none (row ∷ rows) tick zero past all = absurd (omega arith)
next_none (row ∷ rows) tick (suc i) past all =
    rw (le-ltb tick row.tick past.0) (next_none rows tick i past.1 (omega arith))

-- the value after one more row
value_after-more :
    (rows : List Row) (i : ℕ) (d : Row) (value : ℤ) (target tick : ℕ) → i < length rows →
    value_after value (take (suc i) rows) target tick
    ≡ (if counts target tick (get_or rows i d) then (get_or rows i d).value else value_after value (take i rows) target tick)
value_after-more [] i d value target tick within = absurd (omega arith)
value_after-more (row ∷ rows) zero d value target tick within = refl
value_after-more (row ∷ rows) (suc i) d value target tick within =
    value_after-more rows i d (if counts target tick row then row.value else value) target tick (omega arith)

-- the last row of a front, where all rows have come
module _ (rows : List Row) (i : ℕ) (d : Row) (target tick : ℕ) (within : i < length rows)
    (past : AllByRecursion (λ (row : Row). row.tick ≤ tick) rows) where
  last_counts : counts target tick (get_or rows i d) ≡ ((get_or rows i d).target == target)
  last_counts = past_counts target tick (get_or rows i d) (row_at (λ (row : Row). row.tick ≤ tick) rows i d past within)

  -- it is the target's
  pub value_of_last :
      ((get_or rows i d).target == target) ≡ true → value_at (take (i + 1) rows) target tick ≡ (get_or rows i d).value
  value_of_last e =
      rw (add-one i)
      (value_after-more rows i d (pos 0) target tick within ∙ rw (last_counts, e) refl)

  -- it is another's
  pub value_before_last :
      ((get_or rows i d).target == target) ≡ false →
      value_at (take (i + 1) rows) target tick ≡ value_at (take i rows) target tick
  value_before_last e =
      rw (add-one i)
      (value_after-more rows i d (pos 0) target tick within ∙ rw (last_counts, e) refl)

-- rows that come later don't count
pub value_at-past :
    (rows : List Row) (i target tick : ℕ) → AllByRecursion (λ (row : Row). tick < row.tick) (drop i rows) →
    value_at (take i rows) target tick ≡ value_at rows target tick
value_at-past rows i target tick coming =
    sym
    (ap (λ xs. value_at xs target tick) (sym (take-append-drop i rows))
    ∙ value_after-append (take i rows) (drop i rows) (pos 0) target tick
    ∙ value_after-coming (drop i rows) (value_at (take i rows) target tick) target tick coming)

-- one more row
pub AreRows-push :
    (rows : List Row) (row : Row) → AreRows rows → IsRow row → last_tick 0 rows ≤ row.tick → AreRows (rows ++ row ∷ [])
AreRows-push rows row h is le =
    record {
      each = AllByRecursion-push IsRow rows row h.each is;
      order = NeverFall-push rows 0 row h.order le;
    }
