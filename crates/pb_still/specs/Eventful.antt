-- The run of a box, tick by tick: which of its blocks are busy at a tick, and which ticks are eventful.
use Rattle.std.specs.Prelude.{◌≡◌, ℕ, zero, suc, ◌+◌, ◌<◌, ◌⊎◌, ◌||◌, nat_lt, Bool, false, true, List, [], ◌∷◌, map, Option, Some, None, if◌then◌else◌}
use Rattle.pb_buses.specs.declared.Bus.{Bus}
use Rattle.pb_buses.specs.declared.Inputs.{Inputs}
use Rattle.pb_buses.specs.Rules.{IsCalm}
use Rattle.pb_stim.specs.declared.Row.{Row}
use Rattle.pb_model.specs.declared.Block.{Block}
use Rattle.pb_model.specs.Units.{rules}
use Rattle.pb_model.specs.Tick.{Standing, Box, inputs_of, opening_box}
use Rattle.pb_still.specs.Driving.{stimulated, tick}

-- A moment of a run: the rows of the stimulus, the box, what each block saw at the tick before, which is nothing
-- at the first tick of the run, and whether an event stood at this tick: one other than an advance.
pub record Moment : Type 0 where
  pub rows : List Row
  pub box : Box
  pub before : List (Option Inputs)
  pub stood : Bool

-- what each block sees at the tick at which the box stands
abbrev pub seen_in : Standing → List (Option Inputs)
seen_in box = map (λ block. Some (inputs_of box.bus block)) box.blocks

-- the first tick of a run
abbrev pub opening : List Row → Moment
opening rows =
    record {
      rows = rows;
      box = stimulated rows opening_box;
      before = map (λ block. None) opening_box.stands.blocks;
      stood = false;
    }

-- one tick later
abbrev pub next_moment : Moment → Moment
next_moment moment =
    record {
      rows = moment.rows;
      box = tick moment.rows moment.box;
      before = seen_in moment.box.stands;
      stood = false;
    }

-- so many ticks later
abbrev pub moment_after : ℕ → Moment → Moment
moment_after zero moment = moment
moment_after (suc n) moment = moment_after n (next_moment moment)

-- A block is idle at a tick if its step is calm and it sees what it saw at the tick before. Else it is busy: at the
-- first tick of a run every block is.
pub record IsIdle (bus : Bus) (tick : ℕ) (before : Option Inputs) (block : Block) : Type 0 where
  pub calm : IsCalm rules (inputs_of bus block) tick block.unit
  pub same : before ≡ Some (inputs_of bus block)

-- exactly so many of these blocks are busy, which saw this at the tick before
abbrev pub AreBusy : Bus → ℕ → List (Option Inputs) → List Block → ℕ → Type 0
AreBusy bus tick (before ∷ others) (block ∷ blocks) busy =
    (IsIdle bus tick before block × AreBusy bus tick others blocks busy)
    ⊎ (¬ (IsIdle bus tick before block) × ((rest : ℕ) × (busy ≡ rest + 1) × AreBusy bus tick others blocks rest))
AreBusy bus tick [] [] busy = busy ≡ 0
AreBusy bus tick _ _ busy = ⊥

-- exactly so many blocks are busy at this moment
abbrev pub Busy : Moment → ℕ → Type 0
Busy moment busy = AreBusy moment.box.stands.bus moment.box.stands.tick moment.before moment.box.stands.blocks busy

-- one of these blocks is busy, which saw this at the tick before
abbrev pub IsOneBusy : Bus → ℕ → List (Option Inputs) → List Block → Type 0
IsOneBusy bus tick (before ∷ others) (block ∷ blocks) =
    ¬ (IsIdle bus tick before block) ⊎ IsOneBusy bus tick others blocks
IsOneBusy bus tick _ _ = ⊥

-- A tick is eventful if an event stood at it, or some block is busy. Else nothing happens at it but counting.
abbrev pub IsEventful : Moment → Type 0
IsEventful moment =
    (moment.stood ≡ true) ⊎ IsOneBusy moment.box.stands.bus moment.box.stands.tick moment.before moment.box.stands.blocks

pub record IsStill (moment : Moment) : Type 0 where
  pub untouched : moment.stood ≡ false
  pub idle : Busy moment 0

-- Of so many ticks from this moment on exactly so many are eventful, and at these there are so many pairs of a tick and
-- a block that is busy at it.
abbrev pub Run : ℕ → Moment → ℕ → ℕ → Type 0
Run zero moment eventful busy = (eventful ≡ 0) × (busy ≡ 0)
Run (suc n) moment eventful busy =
    (here : ℕ) × (later : ℕ) × (rest : ℕ)
    × Busy moment here × Run n (next_moment moment) later rest
    × (eventful ≡ (if moment.stood || nat_lt 0 here then 1 else 0) + later) × (busy ≡ here + rest)
