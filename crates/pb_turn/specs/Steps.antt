-- The six kinds of atomic step at a turn's table: what each tells, of the step, the seat before, the number found, and the seat after.
use Rattle.std.specs.Prelude.{◌≡◌, ◌≢◌, ℕ, ◌+◌, ◌-◌, ◌<◌, true, false, List, [], ◌∷◌, ◌++◌, length, All, Option, Some, None, option_map, cond, nat_lt}
use mathlib.Core.List.{IsPrefix}
use Rattle.atomic_table.specs.Table.{Me, rest}
use Rattle.pb_turn.specs.Seeing.{Rising, together}
use Rattle.pb_turn.specs.declared.views.View.{View}

-- the view of the first seat, which has all parts
abbrev pub fresh : {E V : Type 0} → V → ℕ → View E V
fresh opened all = record { seen = []; made = []; heard = []; parts = all; all = all; lost = 0; opened = Some opened; holds = false }

-- the longer of two lists, and the shorter
abbrev pub longer : {E : Type 0} → List E → List E → List E
longer xs ys = cond (nat_lt (length xs) (length ys)) ys xs

abbrev pub shorter : {E : Type 0} → List E → List E → List E
shorter xs ys = cond (nat_lt (length xs) (length ys)) xs ys

-- what a seat knows and carries
abbrev pub Carrying : Type 0 → Type 0 → Type 0
Carrying E V = Me (Option V) (View E V)

module _ {E V : Type 0} where
  -- the seat has seen the history, and holds the turn
  abbrev pub holding : View E V → List E → View E V
  holding v log = record { seen = log; made = v.made; heard = []; parts = v.parts; all = v.all; lost = v.lost; opened = v.opened; holds = true }

  -- the seat found the turn taken once more
  abbrev pub losing : View E V → View E V
  losing v = record { seen = v.seen; made = v.made; heard = v.heard; parts = v.parts; all = v.all; lost = v.lost + 1; opened = v.opened; holds = v.holds }

  -- the seat has added an entry of its own
  abbrev pub adding : View E V → E → View E V
  adding v entry = record { seen = v.seen ++ entry ∷ []; made = v.made ++ length v.seen ∷ []; heard = []; parts = v.parts; all = v.all; lost = v.lost; opened = v.opened; holds = v.holds }

  -- the seat no longer holds the turn
  abbrev pub leaving : View E V → View E V
  leaving v = record { seen = v.seen; made = v.made; heard = v.heard; parts = v.parts; all = v.all; lost = v.lost; opened = v.opened; holds = false }

  -- the seat gives up this many parts
  abbrev pub keeping : View E V → ℕ → View E V
  keeping v parts = record { seen = v.seen; made = v.made; heard = v.heard; parts = v.parts - parts; all = v.all; lost = v.lost; opened = v.opened; holds = v.holds }

  -- a new seat has this many parts, and has seen as much
  abbrev pub getting : View E V → ℕ → View E V
  getting v parts = record { seen = v.seen; made = []; heard = []; parts = parts; all = v.all; lost = 0; opened = v.opened; holds = false }

  -- the seat has seen what either has seen, and takes over the calls, the parts and the losses of the other
  abbrev pub joined : View E V → View E V → View E V
  joined v w = record { seen = longer v.seen w.seen; made = together v.made w.made; heard = shorter v.seen w.seen; parts = v.parts + w.parts; all = v.all; lost = v.lost + w.lost; opened = v.opened; holds = false }

  -- the other seat is left with nothing
  abbrev pub spent : View E V
  spent = record { seen = []; made = []; heard = []; parts = 0; all = 0; lost = 0; opened = None; holds = false }

  -- load: nothing changed. What the joined pass had seen is a front of what the seat has seen, and its positions rise and lie below the end of that
  abbrev pub Loads : Carrying E V → Carrying E V → Type 0
  Loads m n = (n ≡ m) × IsPrefix m.0.heard m.0.seen × Rising m.0.made × All (λ k. k < length m.0.seen) m.0.made

  -- out, where it wins: the seat holds the turn and has the value, which stands for the history
  abbrev pub Wins : {O : Type 0} → (V → O) → (V → List E → Type 0) → Carrying E V → Carrying E V → Type 0
  Wins origin stands m n = (log : List E) × (value : V) × (n ≡ (holding m.0 log, (0, Some value) ∷ m.1))
      × IsPrefix m.0.seen log × stands value log × (option_map origin m.0.opened ≡ Some (origin value))

  -- out: it wins where it finds 0. Else it has lost once more, and nothing else changed
  abbrev pub Outs : {O : Type 0} → (V → O) → (V → List E → Type 0) → Carrying E V → ℕ → Carrying E V → Type 0
  Outs origin stands m found n = (found ≡ 0 → Wins origin stands m n) × (found ≢ 0 → n ≡ (losing m.0, m.1))

  -- add: the entry stands at the end
  abbrev pub Adds : E → Carrying E V → Carrying E V → Type 0
  Adds entry m n = n ≡ (adding m.0 entry, m.1)

  -- home: the value is back
  abbrev pub Homes : Carrying E V → Carrying E V → Type 0
  Homes m n = n ≡ (leaving m.0, rest m.1)

  -- add, of an entry that is told to the proof alone
  abbrev pub AddsSaid : Option E → Carrying E V → Carrying E V → Type 0
  AddsSaid said m n = (entry : E) → said ≡ Some entry → Adds entry m n
