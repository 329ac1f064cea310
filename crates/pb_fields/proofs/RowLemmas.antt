-- Reading a row of the table in the source gives the row of the catalogue.
use Rattle.std.proofs.Common.{◌≡◌, ℕ, suc, zero, ◌<◌, ◌≤◌, ◌&&◌, Bool, true, false, List, [], ◌∷◌, length, map, get_or, refl, sym, ap, ◌∙◌, arith, leb}
use Rattle.std.specs.List.{list_all}
use Rattle.std.proofs.lemmas.List.{get_or-map}
use Rattle.std.proofs.lemmas.Bool.{leb-true}
use Rattle.pb_fields.specs.declared.types.FieldType.TheVariants as types
use Rattle.pb_fields.specs.declared.tables.Field.{Field}
use Rattle.pb_fields.specs.declared.tables.Block.{Block}
use Rattle.pb_fields.specs.Catalogue.{field, block, catalogue}
use Rattle.pb_fields.specs.Places.{block_of, count_of, fields_of, field_of}

-- the rows that are read beyond the end of a table
abbrev pub no_field : Field
no_field = record { 0 = record { ref_ptr = (0, 0); now = [] }; 1 = types.ParamUint 0; 2 = 0 }

abbrev pub no_block : Block
no_block = record { 0 = record { ref_ptr = (0, 0); now = [] }; 1 = 0; 2 = record { ref_ptr = (0, 0); now = [] } }

pub and_left : (a b : Bool) → (a && b) ≡ true → a ≡ true
and_left true b h = refl
and_left false b h = h

pub and_right : (a b : Bool) → (a && b) ≡ true → b ≡ true
and_right true b h = h
and_right false b h = cc

-- what passes everywhere in a list passes at each place
pub all_at : {X : Type 0} (p : X → Bool) (xs : List X) (d : X) (i : ℕ) → list_all p xs ≡ true → p d ≡ true → p (get_or xs i d) ≡ true
all_at p [] d i h e = e
all_at p (x ∷ xs) d zero h e = and_left _ _ h
all_at p (x ∷ xs) d (suc i) h e = all_at p xs d i (and_right _ _ h) e

-- the row of an element, where the rows of all are known
pub row_at : {X Y : Type 0} (f : X → Y) (xs : List X) (ys : List Y) (i : ℕ) (x : X) (d : Y) → map f xs ≡ ys → i < length xs → f (get_or xs i x) ≡ get_or ys i d
row_at f xs ys i x d e lt = sym (get_or-map f xs i x d lt) ∙ ap (λ l. get_or l i d) e

-- no block's name is longer than 7 bytes
pub block_short : (b : ℕ) → length (block_of b).name ≤ 7
unfolding catalogue
block_short b = leb-true _ _ (all_at (λ r. leb (length r.name) 7) catalogue (block [] 0 []) b refl refl)

-- no block has more than 8 instances
pub count_few : (b : ℕ) → count_of b ≤ 8
unfolding catalogue
count_few b = leb-true _ _ (all_at (λ r. leb r.count 8) catalogue (block [] 0 []) b refl refl)

-- no field's name is longer than 13 bytes
pub field_short : (b f : ℕ) → length (field_of b f).name ≤ 13
unfolding catalogue
field_short b f =
    leb-true _ _
    (all_at (λ r. leb (length r.name) 13) (fields_of b) (field [] types.Table 0) f
    (all_at (λ r. list_all (λ s. leb (length s.name) 13) r.fields) catalogue (block [] 0 []) b refl refl)
    refl)

-- no block has more than 21 fields
pub fields_few : (b : ℕ) → length (fields_of b) ≤ 21
unfolding catalogue
fields_few b = leb-true _ _ (all_at (λ r. leb (length r.fields) 21) catalogue (block [] 0 []) b refl refl)

-- what passes everywhere in a list passes at each of its places
pub all_within : {X : Type 0} (p : X → Bool) (xs : List X) (d : X) (i : ℕ) → list_all p xs ≡ true → i < length xs → p (get_or xs i d) ≡ true
all_within p [] d i h lt = absurd (omega arith)
all_within p (x ∷ xs) d zero h lt = and_left _ _ h
all_within p (x ∷ xs) d (suc i) h lt = all_within p xs d i (and_right _ _ h) (omega arith)

-- each block has an instance
pub instances_some : (b : ℕ) → b < 12 → 1 ≤ count_of b
unfolding catalogue
instances_some b h = leb-true _ _ (all_within (λ r. leb 1 r.count) catalogue (block [] 0 []) b refl h)

-- each block has a field
pub fields_some : (b : ℕ) → b < 12 → 0 < length (fields_of b)
unfolding catalogue
fields_some b h = leb-true _ _ (all_within (λ r. leb 1 (length r.fields)) catalogue (block [] 0 []) b refl h)
