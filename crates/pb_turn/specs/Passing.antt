-- What contracts see of a seat.
use Rattle.std.specs.Prelude.{◌≡◌, ℕ, ◌<◌, ◌+◌, ◌-◌, false, [], length, All, Option, Some}
use mathlib.Core.List.{IsPrefix}
use Rattle.atomic_table.specs.Table.{Me}
use Rattle.atomic_table.specs.Seated.{TableId}
use Rattle.pb_turn.specs.Seeing.{Known, Rising, together, entries_at, calls_of}
use Rattle.pb_turn.specs.Steps.{longer}
use Rattle.pb_turn.specs.declared.views.View.{View}

module _ {E V : Type 0} where
  abbrev pub known : TableId → View E V → Known E V
  known id v = record { turn = id; seen = v.seen; made = v.made; parts = v.parts; all = v.all; lost = v.lost; opened = v.opened }

  -- the seat of a pass
  pub record IsFree (m : Me (Option V) (View E V)) : Type 0 where
    pub carries : m.1 ≡ []
    pub holds : m.0.holds ≡ false
    pub parts : 0 < m.0.parts
    pub rises : Rising m.0.made
    pub below : All (λ n. n < length m.0.seen) m.0.made

  -- the first pass of a turn
  abbrev pub newcomer : TableId → V → ℕ → Known E V
  newcomer id value parts = record { turn = id; seen = []; made = []; parts = parts; all = parts; lost = 0; opened = Some value }

  -- what a pass is left with after this many parts were cut off, and what the new one has
  abbrev pub kept_of : Known E V → ℕ → Known E V
  kept_of p parts = record { turn = p.turn; seen = p.seen; made = p.made; parts = p.parts - parts; all = p.all; lost = p.lost; opened = p.opened }

  abbrev pub cut_of : Known E V → ℕ → Known E V
  cut_of p parts = record { turn = p.turn; seen = p.seen; made = []; parts = parts; all = p.all; lost = 0; opened = p.opened }

  -- what a pass knows that was made of two
  abbrev pub joined_of : Known E V → Known E V → Known E V
  joined_of p q = record { turn = p.turn; seen = longer p.seen q.seen; made = together p.made q.made; parts = p.parts + q.parts; all = p.all; lost = p.lost + q.lost; opened = p.opened }

-- What a pass that was made of two has: it has seen the calls of both, which are its own now
pub record IsJoined {E V : Type 0} (p q pass : Known E V) : Type 0 where
  pub front : IsPrefix p.seen pass.seen
  pub other_front : IsPrefix q.seen pass.seen
  pub rises : Rising pass.made
  pub below : All (λ n. n < length pass.seen) pass.made
  pub calls : entries_at pass.seen p.made ≡ calls_of p
  pub other_calls : entries_at pass.seen q.made ≡ calls_of q
