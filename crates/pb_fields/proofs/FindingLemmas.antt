-- Where the first element that passes a test stands.
use Rattle.std.proofs.Common.{◌≡◌, ℕ, ◌+◌, ◌≤◌, Bool, cond, not, nat_eq, List, [], ◌∷◌, length, map, refl, ap, ◌∙◌, arith, Some, None, position}
use Rattle.std.specs.List.{position_or_len, prefix_len}
use Rattle.std.specs.Cmp.Lexicographic.{pointwise}
use Rattle.std.proofs.lemmas.List.Sums.{prefix_len-le-length}
use Rattle.std.proofs.lemmas.List.{length-map}
use Rattle.std.proofs.lemmas.Bool.Decides.{nat_tests}
use Rattle.pb_fields.specs.declared.tables.Field.{Field}
use Rattle.pb_fields.specs.Catalogue.{FieldRow}
use Rattle.pb_fields.specs.Rows.{field_row}

pub position-Some_is : {X : Type 0} (p : X → Bool) (xs : List X) (i : ℕ) → position p xs ≡ Some i → position_or_len p xs ≡ i
position-Some_is p xs i h = grind (arith, nat_tests)

pub position-None_is : {X : Type 0} (p : X → Bool) (xs : List X) → position p xs ≡ None → position_or_len p xs ≡ length xs
position-None_is p xs h =
    let le : position_or_len p xs ≤ length xs = prefix_len-le-length (λ x. not (p x)) xs in
    grind (arith, nat_tests)

prefix_len-map : {X Y : Type 0} (p : Y → Bool) (f : X → Y) (xs : List X) → prefix_len p (map f xs) ≡ prefix_len (λ x. p (f x)) xs
prefix_len-map p f [] = refl
prefix_len-map p f (x ∷ xs) = ap (λ n. cond (p (f x)) (1 + n) 0) (prefix_len-map p f xs)

-- the first row that passes is the row of the first element whose row passes
pub position-map : {X Y : Type 0} (p : Y → Bool) (f : X → Y) (xs : List X) (ys : List Y) → map f xs ≡ ys → position (λ x. p (f x)) xs ≡ position p ys
position-map p f xs ys h =
    let len : length (map f xs) ≡ length xs = length-map xs f in
    let same = prefix_len-map (λ y. not (p y)) f xs in
    (rw (← same, ← len) refl) ∙ ap (position p) h

pub field_place : (xs : List Field) (rows : List FieldRow) (name : List ℕ) → map field_row xs ≡ rows → position (λ x. pointwise nat_eq x.0.now name) xs ≡ position (λ (row : FieldRow). pointwise nat_eq row.name name) rows
field_place xs rows name h = position-map (λ (row : FieldRow). pointwise nat_eq row.name name) field_row xs rows h

pub ruleset placing = (position-Some_is, position-None_is)
