-- The tables of the sequencers: what they are, and what is left by a table write.
use Rattle.std.specs.Prelude.{ℕ, List, Result, Ok, Err}
use Rattle.pb_names.specs.declared.seq.TheConstants as seq
use Rattle.pb_words.specs.declared.Refusal.{Refusal}
use Rattle.pb_model.specs.declared.units.Unit.{Unit as AnyUnit}
use Rattle.pb_model.specs.declared.blocks.Block.{Block}
use Rattle.pb_model.specs.Units.{words_of, with_words}
use Rattle.pb_model.specs.Machines.{Name, name, machines, with_named, of_name}
use Rattle.pb_model.specs.Tick.{Box, opening_block}
use Rattle.pb_model.specs.Kept.{Kept}

-- the sequencer of this number
abbrev pub sequencer : ℕ → Name
sequencer number = name seq.BLOCK number

-- the words of its table
abbrev pub table_of : List Block → ℕ → List ℕ
table_of blocks number = words_of (of_name machines (sequencer number) blocks (opening_block seq.BLOCK)).unit

-- the block after a table write that leaves these words
abbrev pub block_with_words : List ℕ → Block → Block
block_with_words words block =
    record { unit = with_words words block.unit; bits = block.bits; positions = block.positions }

-- the blocks after a table write to the sequencer of this number
abbrev pub blocks_with_table : ℕ → List ℕ → List Block → List Block
blocks_with_table number words blocks = with_named machines (sequencer number) (block_with_words words) blocks

-- the box after it
abbrev pub box_with_table : Box → ℕ → List ℕ → Box
box_with_table box number words =
    record {
      stands = record {
        tick = box.stands.tick;
        bus = box.stands.bus;
        settings = box.stands.settings;
        blocks = blocks_with_table number words box.stands.blocks;
      };
      past = box.past;
    }

-- what is kept of the box after it
abbrev pub with_table : Kept → ℕ → List ℕ → Kept
with_table kept number words =
    record {
      tick = kept.tick;
      buses = kept.buses;
      settings = kept.settings;
      blocks = blocks_with_table number words kept.blocks;
    }

-- A table write leaves these words, or is refused and changes nothing.

abbrev pub unit_left : AnyUnit → Result (List ℕ) Refusal → AnyUnit
unit_left unit (Ok words) = with_words words unit
unit_left unit (Err refusal) = unit

abbrev pub block_left : Block → Result (List ℕ) Refusal → Block
block_left block (Ok words) = block_with_words words block
block_left block (Err refusal) = block

abbrev pub table_left : Kept → ℕ → Result (List ℕ) Refusal → Kept
table_left kept number (Ok words) = with_table kept number words
table_left kept number (Err refusal) = kept
