-- What is kept of a run, where a command changed one block.
use Rattle.std.proofs.Common.{◌≡◌, ℕ, zero, suc, ◌+◌, ◌<◌, ◌≤◌, Bool, true, false, cond, List, [], ◌∷◌, map, length, get_or, set, sym, ap, ◌∙◌, arith, Some, None, if◌then◌else◌}
use Rattle.std.specs.Prelude.{count_by}
use Rattle.std.specs.List.{AllByRecursion}
use Rattle.std.proofs.lemmas.List.{map-set, get_or-map, get_or_default, get_or-set_same, length-map, length-set}
use Rattle.std.proofs.lemmas.List.Sums.{sum_by-set}
use Rattle.std.proofs.Math.Seq.{map-set_same}
use Rattle.pb_buses.specs.declared.Inputs.{Inputs}
use Rattle.pb_model.specs.declared.Block.{Block}
use Rattle.pb_model.specs.Machines.{Name, is_name, machines, machine_kinds, place_in, of_name}
use Rattle.pb_model.specs.Tick.{kind_of}
use Rattle.pb_model.proofs.PlaceLemmas.{machines_are_many, named_is_got}
use Rattle.pb_model.proofs.TickLemmas.{are_35}
use Rattle.pb_lazy.specs.declared.Lazy.{Lazy}
use Rattle.pb_lazy.specs.Lazy.{caught_up, saw, IsSound}
use Rattle.pb_jump.proofs.CommandLemmas.{IsLeftBy}

pub all_set : {X : Type 0} (P : X → Type 0) (xs : List X) (i : ℕ) (x : X) → AllByRecursion P xs → P x → AllByRecursion P (set xs i x)
all_set P [] i x all h = all
all_set P (y ∷ xs) zero x all h = (h, all.1)
all_set P (y ∷ xs) (suc i) x all h = (all.0, all_set P xs i x all.1 h)

pub all_get : {X : Type 0} (P : X → Type 0) (xs : List X) (i : ℕ) (d : X) → AllByRecursion P xs → i < length xs → P (get_or xs i d)
all_get P [] i d all h = absurd (omega arith)
all_get P (y ∷ xs) zero d all h = all.0
all_get P (y ∷ xs) (suc i) d all h = all_get P xs i d all.1 (omega arith)

one_or_none : (b : Bool) → cond b 1 0 ≤ 1
one_or_none true = omega arith
one_or_none false = omega arith

-- one deadline more at most is outdated
pub few_outdated : (lazies : List Lazy) (place : ℕ) (new d : Lazy) → place < length lazies →
    count_by (λ (lazy : Lazy). lazy.outdated) (set lazies place new) ≤ count_by (λ (lazy : Lazy). lazy.outdated) lazies + 1
few_outdated lazies place new d inside =
    omega (arith, sum_by-set (λ (lazy : Lazy). cond lazy.outdated 1 0) lazies place new d inside, one_or_none new.outdated)

pub same_outdated : (lazies : List Lazy) (place : ℕ) (new d : Lazy) → place < length lazies → new.outdated ≡ (get_or lazies place d).outdated →
    count_by (λ (lazy : Lazy). lazy.outdated) (set lazies place new) ≡ count_by (λ (lazy : Lazy). lazy.outdated) lazies
same_outdated lazies place new d inside same =
    omega (
      arith,
      sum_by-set (λ (lazy : Lazy). cond lazy.outdated 1 0) lazies place new d inside,
      ap {B = ℕ} (λ (b : Bool). cond b 1 0) same,
    )

pub many_lazies : (tick : ℕ) (lazies : List Lazy) → map kind_of (map (caught_up tick) lazies) ≡ machine_kinds → length lazies ≡ 35
many_lazies tick lazies kinds = sym (length-map lazies (caught_up tick)) ∙ are_35 (map (caught_up tick) lazies) kinds

-- the tick at which the block of a name stands
pub own_there : (lazies : List Lazy) (place : ℕ) (d : Lazy) → place < length lazies → (name : Name) (other : Lazy) → length lazies ≡ 35 →
    place ≡ place_in machines name → (of_name machines name lazies other).own ≡ (get_or lazies place d).own
own_there lazies place d inside name other many is =
    let long : length lazies ≡ length machines = many ∙ sym machines_are_many in
    ap (λ (l : Lazy). l.own)
    (named_is_got machines name lazies other long
    ∙ (ap (λ n. get_or lazies n other) (sym is)
    ∙ get_or_default lazies place other d inside))

module _ (f : Block → Block) (tick : ℕ) (first : Bool) (lazies : List Lazy) (place : ℕ) (new d : Lazy) (inside : place < length lazies)
    (left : IsLeftBy f tick first (get_or lazies place d) new) where
  -- the blocks that it stands for
  pub blocks_left : (e : Block) →
      map (caught_up tick) (set lazies place new)
      ≡ set (map (caught_up tick) lazies) place (f (get_or (map (caught_up tick) lazies) place e))
  blocks_left e =
      map-set (caught_up tick) lazies place new
      ∙ ap (set (map (caught_up tick) lazies) place) (left.now ∙ ap f (sym (get_or-map (caught_up tick) lazies place d e inside)))

  -- what the blocks saw
  pub saw_left : map (saw first) (set lazies place new) ≡ map (saw first) lazies
  saw_left = map-set_same (saw first) lazies place new d (ap (λ (i : Inputs). if first then None else Some i) left.kept)

  pub sound_left : AllByRecursion (IsSound tick first) lazies → AllByRecursion (IsSound tick first) (set lazies place new)
  sound_left all = all_set (IsSound tick first) lazies place new all left.sound

  -- the tick at which the block of this name stands
  pub own_left : (name : Name) (other : Lazy) → length lazies ≡ 35 → place ≡ place_in machines name →
      (of_name machines name (set lazies place new) other).own ≡ tick
  own_left name other many is =
      let long : length (set lazies place new) ≡ length machines = length-set lazies place new ∙ (many ∙ sym machines_are_many) in
      ap (λ (l : Lazy). l.own)
      (named_is_got machines name (set lazies place new) other long
      ∙ (ap (λ n. get_or (set lazies place new) n other) (sym is)
      ∙ get_or-set_same lazies place new other inside))
      ∙ left.own

-- whichever block is brought to the tick, one that stands there doesn't leave it

abbrev own : Lazy → ℕ
own lazy = lazy.own

pub own_stays : (names : List Name) (of : Name) (lazies : List Lazy) (place : ℕ) (new other : Lazy) (tick : ℕ) → new.own ≡ tick →
    own (of_name names of lazies other) ≡ tick → own (of_name names of (set lazies place new) other) ≡ tick
own_stays [] of lazies place new other tick e h = h
own_stays (n ∷ names) of [] place new other tick e h = h
own_stays (n ∷ names) of (l ∷ lazies) zero new other tick e h = by (is_name of n) h
  where
    by : (b : Bool) → own (if b then l else of_name names of lazies other) ≡ tick →
        own (if b then new else of_name names of lazies other) ≡ tick
    by true k = e
    by false k = k
own_stays (n ∷ names) of (l ∷ lazies) (suc i) new other tick e h = by (is_name of n) (own_stays names of lazies i new other tick e) h
  where
    by : (b : Bool) → (own (of_name names of lazies other) ≡ tick → own (of_name names of (set lazies i new) other) ≡ tick) →
        own (if b then l else of_name names of lazies other) ≡ tick →
        own (if b then l else of_name names of (set lazies i new) other) ≡ tick
    by true rest k = k
    by false rest k = rest k
