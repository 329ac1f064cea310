-- The turn while it is held.
use Rattle.std.specs.Prelude.{◌≡◌, ℕ, ◌<◌, true, List, [], ◌∷◌, ◌++◌, length, All, Some, None}
use mathlib.Core.List.{IsPrefix}
use Rattle.atomic_table.specs.Seated.{TableId}
use Rattle.pb_turn.specs.Seeing.{Known, Rising, origin_of, calls_of}
use Rattle.pb_turn.specs.Passing.{known}
use Rattle.pb_turn.specs.Steps.{Carrying}
use Rattle.pb_turn.specs.declared.views.View.{View}

-- What contracts see of the turn while it is held: the pass, which has seen the whole history, and the value
pub record Holding (E V : Type 0) : Type 0 where
  pub pass : Known E V
  pub value : V

module _ {E V : Type 0} where
  abbrev pub holding_of : TableId → View E V → V → Holding E V
  holding_of id v value = record { pass = known id v; value = value }

  -- another value in place of this one
  abbrev pub with_value : Holding E V → V → Holding E V
  with_value h value = record { pass = h.pass; value = value }

  -- the pass has seen this history, and has lost so often
  abbrev pub seeing : Known E V → List E → ℕ → Known E V
  seeing p history lost = record { turn = p.turn; seen = history; made = p.made; parts = p.parts; all = p.all; lost = lost; opened = p.opened }

  -- the pass has added an entry of its own at the end of what it has seen
  abbrev pub after_leaving : Known E V → E → Known E V
  after_leaving p entry = record { turn = p.turn; seen = p.seen ++ entry ∷ []; made = p.made ++ length p.seen ∷ []; parts = p.parts; all = p.all; lost = p.lost; opened = p.opened }

  -- the seat while the value is out of its slot
  pub record IsHeld (m : Carrying E V) : Type 0 where
    pub carries : m.1 ≡ (0, None) ∷ []
    pub holds : m.0.holds ≡ true
    pub parts : 0 < m.0.parts
    pub rises : Rising m.0.made
    pub below : All (λ n. n < length m.0.seen) m.0.made

  -- the seat while the value is in its slot
  pub record HasValue (m : Carrying E V) : Type 0 where
    pub value : V
    pub carries : m.1 ≡ (0, Some value) ∷ []
    pub holds : m.0.holds ≡ true
    pub parts : 0 < m.0.parts
    pub rises : Rising m.0.made
    pub below : All (λ n. n < length m.0.seen) m.0.made

  -- what is held is what the seat had
  abbrev pub IsTaken : TableId → Carrying E V → Holding E V → Type 0
  IsTaken id m held = (value : V) × (m.1 ≡ (0, Some value) ∷ []) × (held ≡ holding_of id m.0 value)

-- The pass has the turn: the value stands for one history, which begins with what the pass had seen, and has the pass's origin
pub record Holds {E V O : Type 0} (origin : V → O) (stands : V → List E → Type 0) (pass : Known E V) (held : Holding E V) : Type 0 where
  pub same : held.pass ≡ seeing pass held.pass.seen held.pass.lost
  pub begins : IsPrefix pass.seen held.pass.seen
  pub is_value : stands held.value held.pass.seen
  pub has_origin : origin_of origin pass ≡ Some (origin held.value)
  pub calls : calls_of held.pass ≡ calls_of pass
