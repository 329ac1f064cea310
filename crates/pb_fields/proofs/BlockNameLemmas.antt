-- The names of the blocks in a map: inserted one by one, they are looked up as in the catalogue.
use Rattle.std.proofs.Common.{◌≡◌, ℕ, zero, suc, ◌+◌, ◌<◌, ◌≤◌, Bool, true, false, cond, ◌&&◌, nat_eq, nat_lt, List, [], ◌∷◌, ◌++◌, length, map, take, get_or, position, Option, Some, None, IfSome, refl, sym, ap, subst, ◌∙◌, inl, inr, arith}
use Rattle.std.specs.Borrow.{Bor}
use Rattle.std.specs.Option.{is_none}
use Rattle.std.specs.List.{position_from, position_or_len}
use Rattle.std.specs.Map.{lookup}
use Rattle.std.specs.Cmp.Lexicographic.{pointwise}
use Rattle.std.proofs.lemmas.Cmp.{nat_list_eq_equiv}
use Rattle.std.proofs.lemmas.Bool.{cases_eq, ltb-true}
use Rattle.std.proofs.lemmas.Iterator.Adapters.{position_from-zero}
use Rattle.std.proofs.lemmas.List.{map-append, take_all, take_more}
use Rattle.indexmap.specs.IndexMap.{IndexMap, get, insert_entry}
use Rattle.indexmap.proofs.CallerLemmas.{insert_entry-new}
use Rattle.pb_fields.specs.BlockNames.{places_from, block_places, place_named}
use Rattle.pb_fields.specs.Catalogue.{BlockRow, block, catalogue}
use Rattle.pb_fields.specs.Finding.{block_with}
use Rattle.pb_fields.specs.Places.{block_of}
use Rattle.pb_fields.proofs.RowLemmas.{and_left, and_right}

-- the entries of a map from names to places
abbrev Entries : Type 0
Entries = List (Bor (List ℕ) × ℕ)

-- two names that are kept behind references are the same
abbrev same_names : Bor (List ℕ) → Bor (List ℕ) → Bool
same_names a b = pointwise nat_eq a.now b.now

-- a look-up by a test of the name
lookup-placed : (test : List ℕ → Bool) (es : Entries) → lookup (λ k. test k.now) es ≡ lookup test (map place_named es)
lookup-placed test [] = refl
lookup-placed test (e ∷ es) = ap (cond (test e.0.now) (Some e.1)) (lookup-placed test es)

lookup-places_from : (test : List ℕ → Bool) (i : ℕ) (rows : List BlockRow) → lookup test (places_from i rows) ≡ position_from (λ row. test row.name) i rows
lookup-places_from test i [] = refl
lookup-places_from test i (row ∷ rows) = ap (cond (test row.name) (Some i)) (lookup-places_from test (i + 1) rows)

-- a look-up among the names of all blocks is the one of the catalogue
pub block_found_by_name : (stem : List ℕ) (es : Entries) → map place_named es ≡ block_places → lookup (λ k. pointwise nat_eq stem k.now) es ≡ block_with stem
block_found_by_name stem es h =
    lookup-placed (pointwise nat_eq stem) es
    ∙ ap (lookup (pointwise nat_eq stem)) h
    ∙ lookup-places_from (pointwise nat_eq stem) 0 catalogue
    ∙ sym (position_from-zero (λ (row : BlockRow). pointwise nat_eq stem row.name) catalogue)
    ∙ (λ j. position (λ (row : BlockRow). nat_list_eq_equiv.symm stem row.name j) catalogue)

-- the place of a block is one of twelve
position_within : {X : Type 0} (p : X → Bool) (xs : List X) → IfSome (position p xs) (λ i. i < length xs)
position_within p xs = by (nat_lt (position_or_len p xs) (length xs)) refl
  where
    by : (b : Bool) → nat_lt (position_or_len p xs) (length xs) ≡ b → IfSome (cond b (Some (position_or_len p xs)) None) (λ i. i < length xs)
    by true e = ltb-true _ _ e
    by false e = tt

pub block_within : (stem : List ℕ) → IfSome (block_with stem) (λ b. b < 12)
unfolding catalogue
block_within stem = position_within (λ (row : BlockRow). pointwise nat_eq row.name stem) catalogue

-- what passes for each number below a bound passes for each of them
abbrev passes_below : (ℕ → Bool) → ℕ → Bool
passes_below p zero = true
passes_below p (suc n) = p n && passes_below p n

passes_at : (p : ℕ → Bool) (n i : ℕ) → passes_below p n ≡ true → i < n → p i ≡ true
passes_at p zero i h lt = absurd (omega (arith, lt))
passes_at p (suc n) i h lt =
    elim (cases_eq i n) [
      | inl same ↦ subst (λ k. p k ≡ true) (sym same) (and_left _ _ h)
      | inr other ↦ passes_at p n i (and_right _ _ h) (omega (arith, lt, other))
    ]

is_none-None : {A : Type 0} (o : Option A) → is_none o ≡ true → o ≡ None
is_none-None None h = refl
is_none-None (Some x) h = cc

-- no block has the name of one before it
name_is_new : (i : ℕ) → i < 12 → lookup (pointwise nat_eq (block_of i).name) (take i block_places) ≡ None
unfolding catalogue
name_is_new i lt =
    is_none-None _ (passes_at (λ k. is_none (lookup (pointwise nat_eq (block_of k).name) (take k block_places))) 12 i refl lt)

get_or-places_from : (i : ℕ) (rows : List BlockRow) (k : ℕ) (d : List ℕ × ℕ) (row : BlockRow) → k < length rows → get_or (places_from i rows) k d ≡ ((get_or rows k row).name, i + k)
get_or-places_from i [] k d row lt = absurd (omega (arith, lt))
get_or-places_from i (x ∷ xs) zero d row lt = ap (λ n. (x.name, n)) (omega arith)
get_or-places_from i (x ∷ xs) (suc k) d row lt =
    get_or-places_from (i + 1) xs k d row (omega (arith, lt)) ∙ ap (λ n. ((get_or xs k row).name, n)) (omega arith)

place_at : (i : ℕ) → i < 12 → take (i + 1) block_places ≡ take i block_places ++ ((block_of i).name, i) ∷ []
unfolding catalogue
place_at i lt =
    take_more block_places i ([], 0) lt
    ∙ ap (λ e. take i block_places ++ e ∷ []) (get_or-places_from 0 catalogue i ([], 0) (block [] 0 []) lt ∙ ap (λ n. ((block_of i).name, n)) (omega arith))

-- a map of the first blocks, with the next inserted
pub next_block_placed : {S : Type 0} (m : IndexMap (Bor (List ℕ)) ℕ S) (k : Bor (List ℕ)) (i : ℕ) → i < 12 → map place_named m.entries ≡ take i block_places → k.now ≡ (block_of i).name → map place_named (insert_entry same_names m.entries k i) ≡ take (i + 1) block_places
next_block_placed m k i lt h named =
    let is_new : get same_names m k ≡ None =
    lookup-placed (pointwise nat_eq k.now) m.entries
    ∙ (λ j. lookup (pointwise nat_eq (named j)) (h j))
    ∙ name_is_new i lt
    in
    ap (map place_named) (insert_entry-new same_names m k i is_new)
    ∙ map-append place_named m.entries ((k, i) ∷ [])
    ∙ (λ j. h j ++ (named j, i) ∷ [])
    ∙ sym (place_at i lt)

-- the first twelve are all
pub all_blocks_placed : (n : ℕ) → 12 ≤ n → take n block_places ≡ block_places
unfolding catalogue
all_blocks_placed n h = take_all n block_places h
