-- Many ticks at which nothing happens but counting, as one.
use Rattle.std.specs.Prelude.{◌≡◌, ℕ, ◌+◌, ◌<◌, false, ◌++◌, map, replicate}
use Rattle.std.specs.List.{AllByRecursion}
use Rattle.pb_buses.specs.declared.Bus.{Bus}
use Rattle.pb_buses.specs.Rules.{after, AreCalm}
use Rattle.pb_buses.specs.Delay.{BitInput, shifted}
use Rattle.pb_buses.specs.Buses.{selected}
use Rattle.pb_model.specs.declared.Block.{Block}
use Rattle.pb_model.specs.Units.{rules}
use Rattle.pb_model.specs.Tick.{Box, inputs_of, seen_on, bus_after}
use Rattle.pb_still.specs.Driving.{driven, stimulated}
use Rattle.pb_still.specs.Eventful.{Moment, seen_in}

-- an input so many ticks later, at all of which the bus is this
abbrev pub input_later : Bus → ℕ → BitInput → BitInput
input_later bus n input = shifted input (selected bus input.select) n

-- the block so many ticks later, at all of which it sees the same
abbrev pub coasted_block : Bus → ℕ → ℕ → Block → Block
coasted_block bus tick n block =
    record {
      unit = after rules (inputs_of bus block) tick n block.unit;
      bits = map (input_later bus n) block.bits;
      positions = block.positions;
    }

-- the box so many ticks later, with the same bus at all of them
abbrev pub coasted : ℕ → Box → Box
coasted n box =
    record {
      stands = record {
        tick = box.stands.tick + n;
        bus = box.stands.bus;
        settings = box.stands.settings;
        blocks = map (coasted_block box.stands.bus box.stands.tick n) box.stands.blocks;
      };
      past = replicate n box.stands.bus ++ box.past;
    }

-- the moment so many ticks later, at which the stimulus puts its values on the bus
abbrev pub coasted_moment : ℕ → Moment → Moment
coasted_moment n moment =
    record {
      rows = moment.rows;
      box = stimulated moment.rows (coasted n moment.box);
      before = seen_in moment.box.stands;
      stood = false;
    }

-- For so many ticks under this bus the steps of the block are calm, and what it sees of its bit inputs doesn't change.
pub record IsQuietFor (bus : Bus) (tick n : ℕ) (block : Block) : Type 0 where
  pub calm : AreCalm rules (inputs_of bus block) tick n block.unit
  pub steady : (k : ℕ) → k < n → map (λ input. seen_on bus (input_later bus k input)) block.bits ≡ map (seen_on bus) block.bits

-- For so many ticks nothing happens but counting: so it is with each block, the bus shows the outputs of the blocks and
-- the settings of BITS already, and it has the values of the stimulus at each of these ticks.
pub record StaysFor (n : ℕ) (moment : Moment) : Type 0 where
  pub blocks : AllByRecursion (IsQuietFor moment.box.stands.bus moment.box.stands.tick n) moment.box.stands.blocks
  pub shown : bus_after moment.box.stands.bus moment.box.stands.blocks moment.box.stands.settings ≡ moment.box.stands.bus
  pub levels : (k : ℕ) → k < n → driven moment.rows (moment.box.stands.tick + k) moment.box.stands.bus ≡ moment.box.stands.bus
