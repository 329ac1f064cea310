-- What holds between any two steps at a turn's table. Word 0 is the length of the history modulo 2^64. Word 1 is 1 while the turn is taken, and else 0. The one slot has the value.
use Rattle.std.specs.Prelude.{◌≡◌, ℕ, ◌%◌, ◌^◌, ◌<◌, true, List, [], ◌∷◌, length, All, sum_by, Option, Some}
use mathlib.Core.Option as maybe
use mathlib.Core.List.{IsPrefix}
use lib.ListN.{get_elem?}
use Rattle.atomic_table.specs.Table.{State}
use Rattle.pb_turn.specs.Seeing.{Rising}
use Rattle.pb_turn.specs.declared.views.View.{View}

-- 1 where some seat holds the turn
abbrev pub taken : maybe.Option ℕ → ℕ
taken maybe.none = 0
taken (maybe.some seat) = 1

-- What holds of the view of a seat
pub record Fits {E V : Type 0} (log : List E) (holder : maybe.Option ℕ) (maker : ℕ → ℕ) (opened : V) (all seat : ℕ) (v : View E V) : Type 0 where
  -- what it has seen is a front of the history
  pub front : IsPrefix v.seen log
  pub heard : IsPrefix v.heard v.seen
  pub rises : Rising v.made
  pub below : All (λ n. n < length v.seen) v.made
  -- each position has one maker, so none is in two views
  pub own : All (λ n. maker n ≡ seat) v.made
  pub same : v.opened ≡ Some opened
  pub parts : v.all ≡ all
  -- where it holds the turn, it has seen the whole history
  pub holds : v.holds ≡ true → (holder ≡ maybe.some seat) × (v.seen ≡ log)

-- What a seat that holds the turn is
pub record Holder {E V : Type 0} (views : List (View E V)) (seat : ℕ) : Type 0 where
  pub view : View E V
  pub stands : get_elem? views seat ≡ maybe.some view
  pub parts : 0 < view.parts
  pub holds : view.holds ≡ true

-- The value at home
pub record Home {E V O : Type 0} (origin : V → O) (stands : V → List E → Type 0) (opened : V) (log : List E) (homes : List (maybe.Option (Option V))) : Type 0 where
  pub value : V
  pub home : get_elem? homes 0 ≡ maybe.some (maybe.some (Some value))
  pub holds : stands value log
  pub same : origin value ≡ origin opened

-- There is one history. A view with no part is spent
pub record OneHistory {E V O : Type 0} (origin : V → O) (stands : V → List E → Type 0) (opened : V) (all : ℕ) (s : State (Option V) (View E V)) : Type 0 where
  pub log : List E
  pub holder : maybe.Option ℕ
  pub maker : ℕ → ℕ
  pub words : s.words ≡ (length log % 2 ^ 64) ∷ taken holder ∷ []
  pub views : (seat : ℕ) (v : View E V) → get_elem? s.views seat ≡ maybe.some v → 0 < v.parts → Fits log holder maker opened all seat v
  pub parts : sum_by (λ v. v.parts) s.views ≡ all
  pub held : (seat : ℕ) → holder ≡ maybe.some seat → Holder s.views seat
  pub home : holder ≡ maybe.none → Home origin stands opened log s.homes
