-- What is kept of a run: the box with lazy blocks, and what makes the next tick eventful.
use Rattle.std.specs.Prelude.{◌≡◌, ℕ, Bool, true, false, List, map, count_by}
use Rattle.std.specs.List.{AllByRecursion}
use Rattle.pb_buses.specs.declared.Buses.{Buses}
use Rattle.pb_stim.specs.declared.Row.{Row}
use Rattle.pb_model.specs.declared.Block.{Block}
use Rattle.pb_model.specs.Tick.{bus_after}
use Rattle.pb_model.specs.Kept.{Kept, IsWhole}
use Rattle.pb_model.specs.Kept as model
use Rattle.pb_still.specs.Driving.{driven}
use Rattle.pb_still.specs.Eventful.{Moment}
use Rattle.pb_lazy.specs.declared.Lazy.{Lazy}
use Rattle.pb_lazy.specs.Lazy.{caught_up, saw, IsSound}

-- the rows of the stimulus, the tick, the buses with the ticks of their last changes, the settings of BITS, the
-- blocks, whether no tick was made yet, and whether an event stands at the tick
pub record Going : Type 0 where
  pub rows : List Row
  pub tick : ℕ
  pub buses : Buses
  pub settings : List Bool
  pub lazies : List Lazy
  pub first : Bool
  pub stood : Bool

abbrev pub going : List Row → ℕ → Buses → List Bool → List Lazy → Bool → Bool → Going
going rows tick buses settings lazies first stood =
    record {
      rows = rows;
      tick = tick;
      buses = buses;
      settings = settings;
      lazies = lazies;
      first = first;
      stood = stood;
    }

-- what is kept of the box, with every block brought to the tick
abbrev pub now_of : Going → Kept
now_of g =
    record {
      tick = g.tick;
      buses = g.buses;
      settings = g.settings;
      blocks = map (caught_up g.tick) g.lazies;
    }

-- the block as it stands at its own ticks
abbrev pub block_in : Lazy → Block
block_in lazy = lazy.block

-- how many deadlines are outdated
abbrev pub outdated : Going → ℕ
outdated g = count_by (λ (lazy : Lazy). lazy.outdated) g.lazies

-- with an event that stands at the tick
abbrev pub touched : Going → Going
touched g = record g { stood = true }

-- with other blocks
abbrev pub with_lazies : Going → List Lazy → Going
with_lazies g lazies = record g { lazies = lazies }

-- What is kept is that of a moment of a run. The bus of that moment has the values of the stimulus, and it shows the
-- outputs of the blocks and the settings of BITS, but at the first tick and where an event stands.
pub record Agrees (g : Going) (moment : Moment) : Type 0 where
  pub rows : g.rows ≡ moment.rows
  pub box : model.Agrees (now_of g) moment.box
  pub before : map (saw g.first) g.lazies ≡ moment.before
  pub stood : g.stood ≡ moment.stood
  pub driven : driven moment.rows moment.box.stands.tick moment.box.stands.bus ≡ moment.box.stands.bus
  pub shown : g.first ≡ false → g.stood ≡ false →
      bus_after moment.box.stands.bus moment.box.stands.blocks moment.box.stands.settings ≡ moment.box.stands.bus

-- What holds of it at any moment: the blocks are those of the catalogue, and each is sound.
pub record IsGoing (g : Going) : Type 0 where
  pub whole : IsWhole (now_of g).blocks g.settings
  pub sound : AllByRecursion (IsSound g.tick g.first) g.lazies

-- every deadline is known
abbrev pub AreKnown : Going → Type 0
AreKnown g = AllByRecursion (λ (lazy : Lazy). lazy.outdated ≡ false) g.lazies
