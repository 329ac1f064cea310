-- A block that stays at a tick of its own: what it stands for at a tick, and what is known of it.
use Rattle.std.specs.Prelude.{◌≡◌, ℕ, ◌+◌, ◌-◌, ◌<◌, ◌≤◌, ◌^◌, min, pos, Bool, true, false, map, replicate, Option, Some, None, if◌then◌else◌}
use Rattle.std.specs.List.{AllByRecursion}
use Rattle.pb_buses.specs.declared.Bus.{Bus}
use Rattle.pb_buses.specs.declared.Inputs.{Inputs}
use Rattle.pb_buses.specs.Rules.{after, IsCalm, AreCalm}
use Rattle.pb_buses.specs.Buses.{selected, position}
use Rattle.pb_buses.specs.Delay.{BitInput, seen, shifted, latest}
use Rattle.pb_model.specs.declared.Block.{Block}
use Rattle.pb_model.specs.declared.units.Unit.{Unit as AnyUnit}
use Rattle.pb_model.specs.Units.{rules}
use Rattle.pb_model.specs.Tick.{inputs_of, seen_on, input_after, block_after, sees_all, opening_block}
use Rattle.pb_names.specs.declared.bit_bus.TheConstants as bit_bus
use Rattle.pb_names.specs.declared.position_bus.TheConstants as position_bus
use Rattle.pb_still.specs.Coasting.{input_later}
use Rattle.pb_model.specs.Parts.{IsNarrow}
use Rattle.pb_lazy.specs.declared.lazies.Lazy.{Lazy}

-- a bit input so many ticks later, at all of which it selected what it had selected last
abbrev pub lately : ℕ → BitInput → BitInput
lately n input = shifted input (latest input) n

-- and what the block sees of it then
abbrev pub lately_seen : ℕ → BitInput → Bool
lately_seen n input = seen (lately n input) (latest input)

-- the unit at a tick: it makes the steps since its own
abbrev pub unit_at : ℕ → Lazy → AnyUnit
unit_at tick lazy = after rules lazy.kept lazy.own (tick - lazy.own) lazy.block.unit

-- the block that it stands for at a tick
abbrev pub caught_up : ℕ → Lazy → Block
caught_up tick lazy =
    record {
      unit = unit_at tick lazy;
      bits = map (lately (tick - lazy.at)) lazy.block.bits;
      positions = lazy.block.positions;
    }

-- what it saw at the tick before, which is nothing at the first tick
abbrev pub saw : Bool → Lazy → Option Inputs
saw first lazy = if first then None else Some lazy.kept

-- The first tick at which a step of the unit isn't calm, if from this tick on it sees this, or none that any box reaches.
pub record HasEnd (unit : AnyUnit) (inputs : Inputs) (tick due : ℕ) : Type 0 where
  pub from : tick ≤ due
  pub within : due ≤ 2 ^ 62
  pub calm : AreCalm rules inputs tick (due - tick) unit
  pub ends : due < 2 ^ 62 → ¬ (IsCalm rules inputs due (after rules inputs tick (due - tick) unit))

-- Its deadline is the first tick at which its step isn't calm, if it goes on to see the same, or none that any box reaches.
pub record IsDue (tick : ℕ) (lazy : Lazy) : Type 0 where
  pub from_now : tick ≤ lazy.due
  pub within : lazy.due ≤ 2 ^ 62
  pub calm : AreCalm rules lazy.kept lazy.own (lazy.due - lazy.own) lazy.block.unit
  pub ends : lazy.due < 2 ^ 62 → ¬ (IsCalm rules lazy.kept lazy.due (unit_at lazy.due lazy))

-- nothing stands at ZERO of either bus
pub record HasZero (bus : Bus) : Type 0 where
  pub bit : selected bus bit_bus.ZERO ≡ false
  pub position : position bus position_bus.ZERO ≡ pos 0

-- a block that isn't PCAP, whose inputs all select ZERO
pub record IsUnwired (block : Block) : Type 0 where
  pub kind : sees_all block ≡ false
  pub bits : AllByRecursion (λ (input : BitInput). input.select ≡ bit_bus.ZERO) block.bits
  pub positions : AllByRecursion (λ (select : ℕ). select ≡ position_bus.ZERO) block.positions

-- and which saw so at the last tick: whatever happens on the buses, it sees the same
pub record IsLoose (block : Block) (kept : Inputs) : Type 0 where
  pub unwired : IsUnwired block
  pub lines : AllByRecursion (λ (input : BitInput). latest input ≡ false) block.bits
  pub zeros : kept.positions ≡ map (λ (select : ℕ). pos 0) block.positions

-- What is known of it at a tick: the steps since its own tick were calm, up to its turn it sees the same of bit inputs
-- that select the same, none of its inputs is wired where it says so, and its deadline is known, but at the first tick and
-- where it is outdated.
pub record IsSound (tick : ℕ) (first : Bool) (lazy : Lazy) : Type 0 where
  pub own : lazy.own ≤ tick
  pub at : lazy.at ≤ tick
  pub calm : AreCalm rules lazy.kept lazy.own (tick - lazy.own) lazy.block.unit
  pub steady : (k : ℕ) → lazy.at + k < lazy.turn → map (lately_seen k) lazy.block.bits ≡ lazy.kept.bits
  pub narrow : sees_all lazy.block ≡ false → IsNarrow lazy.kept
  pub loose : lazy.wired ≡ false → IsLoose lazy.block lazy.kept
  pub deadline : first ≡ false → lazy.outdated ≡ false → IsDue tick lazy

-- Nothing concerns the block on this bus, as far as its inputs go: they select what they had selected last, and the
-- rest of what it sees is as it was.
pub record IsUnmoved (bus : Bus) (lazy : Lazy) : Type 0 where
  pub bits : map (λ (input : BitInput). selected bus input.select) lazy.block.bits ≡ map latest lazy.block.bits
  pub others : record (inputs_of bus lazy.block) { bits = lazy.kept.bits } ≡ lazy.kept

-- And nothing else does at this tick.
pub record IsQuiet (bus : Bus) (tick : ℕ) (lazy : Lazy) : Type 0 where
  pub known : lazy.outdated ≡ false
  pub due : tick < lazy.due
  pub turn : tick < lazy.turn
  pub unmoved : IsUnmoved bus lazy

-- What its calls leave.

-- nothing seen
abbrev pub nothing : Inputs
nothing =
    record {
      bits = replicate 5 false;
      positions = replicate 3 (pos 0);
      words = replicate 4 0;
      bus = replicate position_bus.WIDTH (pos 0);
    }

-- as the box opens
abbrev pub opening_lazy : ℕ → Lazy
opening_lazy kind =
    record { block = opening_block kind; own = 0; kept = nothing; due = 0; outdated = false; at = 0; turn = 0; wired = true }

-- with its bit inputs brought to this tick
abbrev pub settled : ℕ → Lazy → Lazy
settled tick lazy =
    record lazy {
      block = record {
        unit = lazy.block.unit;
        bits = map (lately (tick - lazy.at)) lazy.block.bits;
        positions = lazy.block.positions;
      };
      at = tick;
    }

-- with its unit brought to this tick
abbrev pub awake : ℕ → Lazy → Lazy
awake tick lazy =
    record lazy {
      block = record { unit = unit_at tick lazy; bits = lazy.block.bits; positions = lazy.block.positions };
      own = tick;
    }

-- Up to the tick before this turn the block, whose bit inputs stand at this tick, sees the same of them.
pub record IsTurn (bus : Bus) (tick : ℕ) (block : Block) (turn : ℕ) : Type 0 where
  pub ahead : tick < turn
  pub steady : (k : ℕ) → tick + k < turn → map (seen_on bus) (map (input_later bus k) block.bits) ≡ map (seen_on bus) block.bits

-- with its delay lines after this tick, a turn, and whether it is wired
abbrev pub pushed_lazy : Bus → ℕ → ℕ → Bool → Lazy → Lazy
pushed_lazy bus tick turn wired lazy =
    record lazy {
      block = record {
        unit = lazy.block.unit;
        bits = map (input_after bus) (map (lately (tick - lazy.at)) lazy.block.bits);
        positions = lazy.block.positions;
      };
      at = tick + 1;
      turn = turn;
      wired = wired;
    }

pub record IsPushed (bus : Bus) (tick : ℕ) (old new : Lazy) : Type 0 where
  pub left : new ≡ pushed_lazy bus tick new.turn new.wired old
  pub turns : IsTurn bus tick (settled tick old).block new.turn
  pub unwired : new.wired ≡ false → IsUnwired old.block
  pub zero : HasZero bus

-- with its deadline known
pub record IsKnown (old new : Lazy) : Type 0 where
  pub left : new ≡ record old { due = new.due; outdated = false }
  pub due : IsDue new.own new

-- a tick, or the first one that no box reaches
abbrev pub capped : ℕ → ℕ
capped tick = min tick (2 ^ 62)

-- after a step under these inputs, with a deadline
abbrev pub stepped_lazy : Inputs → ℕ → ℕ → Lazy → Lazy
stepped_lazy inputs tick due lazy =
    record lazy {
      block = record {
        unit = rules.next (unit_at tick lazy) inputs tick;
        bits = lazy.block.bits;
        positions = lazy.block.positions;
      };
      own = tick + 1;
      kept = inputs;
      due = due;
      outdated = false;
    }

pub record IsStepped (inputs : Inputs) (tick : ℕ) (old new : Lazy) : Type 0 where
  pub left : new ≡ stepped_lazy inputs tick new.due old
  pub due : IsDue (tick + 1) new

-- What a tick leaves: it stands for the block after the tick, has kept what it saw, and is sound.
pub record IsMet (bus : Bus) (tick : ℕ) (old new : Lazy) : Type 0 where
  pub next : caught_up (tick + 1) new ≡ block_after bus tick (caught_up tick old)
  pub kept : new.kept ≡ inputs_of bus (caught_up tick old)
  pub sound : IsSound (tick + 1) false new
  pub known : new.outdated ≡ false
