-- Where a block stands among those with a machine.
use Rattle.std.proofs.Common.{◌≡◌, ℕ, suc, ◌+◌, ◌-◌, ◌<◌, ◌≤◌, Bool, true, false, ltb, List, [], ◌∷◌, length, map, get_or, refl, sym, ap, ◌∙◌, arith, if◌then◌else◌}
use Rattle.std.specs.List.{range_with_len}
use Rattle.std.proofs.lemmas.Bool.{ltb-true}
use Rattle.std.proofs.Math.ListN.{set}
use Rattle.std.proofs.lemmas.List.FromFn.{get_or-map-range_with_len}
use Rattle.pb_names.specs.declared.lut.TheConstants as lut
use Rattle.pb_names.specs.declared.pcap.TheConstants as pcap
use Rattle.pb_fields.specs.Catalogue.{catalogue}
use Rattle.pb_fields.specs.Places.{count_of}
use Rattle.pb_model.specs.Machines.{Name, name, is_name, machines, machine_kinds, place_in, with_named, of_name}

place : ℕ → ℕ → ℕ
place kind number = place_in machines (name kind number)

from_first : ℕ → ℕ → ℕ
from_first kind number = place_in machines (name kind 1) + number - 1

of_kind : (ℕ → ℕ → ℕ) → ℕ → List ℕ
of_kind f kind = map (f kind) (range_with_len 1 (count_of kind))

rows : map (of_kind place) (range_with_len 3 9) ≡ map (of_kind from_first) (range_with_len 3 9)
unfolding place from_first of_kind machines catalogue
rows = refl

row : (f : ℕ → ℕ → ℕ) (kind number : ℕ) → lut.BLOCK ≤ kind → kind ≤ pcap.BLOCK → 1 ≤ number → number ≤ count_of kind →
    get_or (get_or (map (of_kind f) (range_with_len 3 9)) (kind - 3) []) (number - 1) 0 ≡ f kind number
unfolding of_kind
row f kind number a b c d =
    ap (λ l. get_or l (number - 1) 0) (get_or-map-range_with_len (of_kind f) 3 9 (kind - 3) kind [] (omega arith) (omega arith))
    ∙ get_or-map-range_with_len (f kind) 1 (count_of kind) (number - 1) number 0 (omega arith) (omega arith)

-- the blocks of a kind stand one after the other
pub in_turn : (kind number : ℕ) → lut.BLOCK ≤ kind → kind ≤ pcap.BLOCK → 1 ≤ number → number ≤ count_of kind →
    place_in machines (name kind number) ≡ place_in machines (name kind 1) + number - 1
unfolding place from_first
in_turn kind number a b c d =
    sym (row place kind number a b c d)
    ∙ ap (λ l. get_or (get_or l (kind - 3) []) (number - 1) 0) rows
    ∙ row from_first kind number a b c d

-- there are 35 of them
counted : Bool → ℕ
counted true = 1
counted false = 0

few : ℕ → ℕ → ℕ
few kind number = counted (ltb (from_first kind number) 35)

one : ℕ → ℕ → ℕ
one kind number = 1

rows_few : map (of_kind few) (range_with_len 3 9) ≡ map (of_kind one) (range_with_len 3 9)
unfolding few counted one from_first of_kind machines catalogue
rows_few = refl

is_true : (b : Bool) → counted b ≡ 1 → b ≡ true
unfolding counted
is_true true h = refl
is_true false h = cc

pub in_few : (kind number : ℕ) → lut.BLOCK ≤ kind → kind ≤ pcap.BLOCK → 1 ≤ number → number ≤ count_of kind →
    place_in machines (name kind 1) + number - 1 < 35
unfolding few one from_first
in_few kind number a b c d =
    ltb-true _ _ (is_true _
    (sym (row few kind number a b c d)
    ∙ ap (λ l. get_or (get_or l (kind - 3) []) (number - 1) 0) rows_few
    ∙ row one kind number a b c d))

-- To change the one of a name is to change the one at its place.
step_same : {X : Type 0} (b : Bool) (k : ℕ) (f : X → X) (x d : X) (xs rest : List X) → rest ≡ set xs k (f (get_or xs k d)) →
    (if b then f x ∷ xs else x ∷ rest) ≡ set (x ∷ xs) (if b then 0 else suc k) (f (get_or (x ∷ xs) (if b then 0 else suc k) d))
step_same true k f x d xs rest h = refl
step_same false k f x d xs rest h = ap (λ l. x ∷ l) h

pub named_is_set : {X : Type 0} (names : List Name) (of : Name) (f : X → X) (xs : List X) (d : X) →
    length xs ≡ length names → with_named names of f xs ≡ set xs (place_in names of) (f (get_or xs (place_in names of) d))
named_is_set [] of f [] d h = refl
named_is_set [] of f (x ∷ xs) d h = cc
named_is_set (n ∷ names) of f [] d h = refl
named_is_set (n ∷ names) of f (x ∷ xs) d h =
    step_same (is_name of n) (place_in names of) f x d xs (with_named names of f xs)
    (named_is_set names of f xs d (omega arith))

step_got : {X : Type 0} (b : Bool) (k : ℕ) (x d other rest : X) (xs : List X) → rest ≡ get_or xs k d →
    (if b then x else rest) ≡ get_or (x ∷ xs) (if b then 0 else suc k) d
step_got true k x d other rest xs h = refl
step_got false k x d other rest xs h = h

pub named_is_got : {X : Type 0} (names : List Name) (of : Name) (xs : List X) (d : X) →
    length xs ≡ length names → of_name names of xs d ≡ get_or xs (place_in names of) d
named_is_got [] of [] d h = refl
named_is_got [] of (x ∷ xs) d h = cc
named_is_got (n ∷ names) of [] d h = cc
named_is_got (n ∷ names) of (x ∷ xs) d h =
    step_got (is_name of n) (place_in names of) x d d (of_name names of xs d) xs (named_is_got names of xs d (omega arith))

-- The kind of the block at a place.

kind_there : ℕ → ℕ → ℕ
kind_there kind number = get_or machine_kinds (place kind number) 0

kind_itself : ℕ → ℕ → ℕ
kind_itself kind number = kind

rows_kind : map (of_kind kind_there) (range_with_len 3 9) ≡ map (of_kind kind_itself) (range_with_len 3 9)
unfolding kind_there kind_itself place of_kind machines machine_kinds catalogue
rows_kind = refl

pub kind_at : (kind number : ℕ) → lut.BLOCK ≤ kind → kind ≤ pcap.BLOCK → 1 ≤ number → number ≤ count_of kind →
    get_or machine_kinds (place_in machines (name kind number)) 0 ≡ kind
unfolding kind_there kind_itself place
kind_at kind number a b c d =
    sym (row kind_there kind number a b c d)
    ∙ ap (λ l. get_or (get_or l (kind - 3) []) (number - 1) 0) rows_kind
    ∙ row kind_itself kind number a b c d

pub machines_are_many : length machines ≡ 35
unfolding machines catalogue
machines_are_many = refl
