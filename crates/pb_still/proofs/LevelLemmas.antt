-- The values of the targets where a row comes, and where time goes on.
use Rattle.std.proofs.Common.{◌≡◌, ℕ, ◌+◌, ◌<◌, ◌≤◌, ◌==◌, Bool, true, false, List, [], ◌∷◌, ◌++◌, length, get_or, set, take, drop, map, ℤ, pos, refl, sym, ap, ◌∙◌, arith}
use Rattle.std.specs.Prelude.{nat_lt, if◌then◌else◌}
use Rattle.std.specs.List.{AllByRecursion, range_with_len}
use Rattle.std.proofs.lemmas.Bool.{ltb-true, ltb-false, eqb-true, eqb-false}
use Rattle.std.proofs.lemmas.List.{take-append-drop, take_more, length-set, get_or-set_other}
use Rattle.std.proofs.lemmas.List.FromFn.{length-map-range_with_len, get_or-map-range_with_len, fill_by_all}
use Rattle.std.proofs.lemmas.Grind.{get_or-set_at}
use Rattle.pb_stim.specs.declared.Row.{Row}
use Rattle.pb_stim.specs.Stimulus.{value_at}
use Rattle.pb_still.specs.Driving.{levels_at, encoders_at}
use Rattle.pb_still.specs.Current.{values_at, with_row, levels_of}
use Rattle.pb_stim.proofs.StimulusLemmas.{value_after-append, value_after-coming, value_after-past, past_counts}

-- a list of ten values, by its places
ten : (f : ℕ → ℤ) (values : List ℤ) → length values ≡ 10 → ((i : ℕ) → i < 10 → get_or values i (pos 0) ≡ f i) → values ≡ map f (range_with_len 0 10)
ten f values long at = fill_by_all f values 10 (pos 0) long at

-- the value at a place where that of a target is replaced
replaced_at : (b c : Bool) (values : List ℤ) (target i : ℕ) (v : ℤ) → length values ≡ 10 → i < 10 → nat_lt target 10 ≡ b → (target == i) ≡ c → get_or (if b then set values target v else values) i (pos 0) ≡ (if c then v else get_or values i (pos 0))
replaced_at true true values target i v long lt small same =
    get_or-set_at values target i v (pos 0) (sym (eqb-true target i same)) (omega (arith, ltb-true target 10 small))
replaced_at true false values target i v long lt small same =
    get_or-set_other values target i v (pos 0) (λ e. eqb-false target i same (sym e))
replaced_at false true values target i v long lt small same =
    absurd (omega (arith, ltb-false target 10 small, eqb-true target i same))
replaced_at false false values target i v long lt small same = refl

replaced_length : (b : Bool) (values : List ℤ) (target : ℕ) (v : ℤ) → length (if b then set values target v else values) ≡ length values
replaced_length true values target v = length-set values target v
replaced_length false values target v = refl

-- one more row that has come
pub values_at-push : (rows : List Row) (row : Row) (tick : ℕ) → row.tick ≤ tick → values_at (rows ++ row ∷ []) tick ≡ with_row (values_at rows tick) row.target row.value
values_at-push rows row tick h =
    let f : ℕ → ℤ = λ i. value_at rows i tick in
    let g : ℕ → ℤ = λ i. value_at (rows ++ row ∷ []) i tick in
    let long : length (map f (range_with_len 0 10)) ≡ 10 = length-map-range_with_len f 0 10 in
    sym (ten g (with_row (values_at rows tick) row.target row.value)
    (replaced_length (nat_lt row.target 10) (map f (range_with_len 0 10)) row.target row.value ∙ long)
    (λ i lt.
    replaced_at (nat_lt row.target 10) (row.target == i) (map f (range_with_len 0 10)) row.target i row.value long lt refl refl
    ∙ (ap (λ v. if row.target == i then row.value else v) (get_or-map-range_with_len f 0 10 i i (pos 0) lt (omega arith))
    ∙ sym (value_after-append rows (row ∷ []) (pos 0) i tick
    ∙ ap (λ test. if test then row.value else value_at rows i tick) (past_counts i tick row h)))))

-- values that agree for each target
same_values : (rows more : List Row) (tick later : ℕ) → ((i : ℕ) → value_at rows i tick ≡ value_at more i later) → values_at rows tick ≡ values_at more later
same_values rows more tick later h =
    let f : ℕ → ℤ = λ i. value_at rows i tick in
    ten (λ i. value_at more i later) (values_at rows tick) (length-map-range_with_len f 0 10) (λ i lt.
    get_or-map-range_with_len f 0 10 i i (pos 0) lt (omega arith) ∙ h i)

-- only the rows that have come count
pub values_at-front : (rows : List Row) (place tick : ℕ) → AllByRecursion (λ (row : Row). tick < row.tick) (drop place rows) → values_at (take place rows) tick ≡ values_at rows tick
values_at-front rows place tick h =
    same_values (take place rows) rows tick tick (λ i.
    sym (value_after-coming (drop place rows) (value_at (take place rows) i tick) i tick h)
    ∙ (sym (value_after-append (take place rows) (drop place rows) (pos 0) i tick)
    ∙ ap (λ all. value_at all i tick) (take-append-drop place rows)))

-- the values of rows that have come stay as time goes on
pub values_at-later : (rows : List Row) (tick later : ℕ) → tick ≤ later → AllByRecursion (λ (row : Row). row.tick ≤ tick) rows → values_at rows tick ≡ values_at rows later
values_at-later rows tick later le h =
    same_values rows rows tick later (λ i. sym (value_after-past rows (pos 0) i tick later le h))

-- the values once the next row has come
pub levels_more : (rows : List Row) (place tick : ℕ) (d : Row) (values new : List ℤ) → place < length rows → (get_or rows place d).tick ≤ tick → values ≡ values_at (take place rows) tick → new ≡ with_row values (get_or rows place d).target (get_or rows place d).value → new ≡ values_at (take (place + 1) rows) tick
levels_more rows place tick d values new within come was is =
    is
    ∙ (ap (λ all. with_row all (get_or rows place d).target (get_or rows place d).value) was
    ∙ (sym (values_at-push (take place rows) (get_or rows place d) tick come)
    ∙ ap (λ front. values_at front tick) (sym (take_more rows place d within))))

-- the first six values are those of TTLIN, and the others those of INENC
pub levels_are : (rows : List Row) (tick : ℕ) → levels_of (values_at rows tick) ≡ levels_at rows tick
levels_are rows tick = refl

pub encoders_are : (rows : List Row) (tick : ℕ) → drop 6 (values_at rows tick) ≡ encoders_at rows tick
encoders_are rows tick = refl
