-- PCAP in the box: whether it is idle, and what arming and disarming leave.
use Rattle.std.specs.Prelude.{ℕ, Bool, true, false, List}
use Rattle.pb_names.specs.declared.pcap.TheConstants as pcap
use Rattle.pb_buses.specs.declared.Emit.{Emit}
use Rattle.pb_buses.specs.declared.Emit.TheVariants as emits
use Rattle.pb_model.specs.declared.units.Unit.{Unit as AnyUnit}
use Rattle.pb_model.specs.declared.blocks.Block.{Block}
use Rattle.pb_model.specs.Units.{is_idle, armed, disarmed}
use Rattle.pb_model.specs.Machines.{Name, name, machines, with_named, of_name}
use Rattle.pb_model.specs.Tick.{Box, opening_block}
use Rattle.pb_model.specs.Kept.{Kept}
use Rattle.pb_model.specs.declared.changes.Change.{Change}
use Rattle.pb_model.specs.declared.changes.Change.TheVariants as changes

-- its name
abbrev pub capture : Name
capture = name pcap.BLOCK 1

-- PCAP is neither armed nor running
abbrev pub is_capture_idle : List Block → Bool
is_capture_idle blocks = is_idle (of_name machines capture blocks (opening_block pcap.BLOCK)).unit

-- the block with its unit changed, and nothing else
abbrev pub with_unit : (AnyUnit → AnyUnit) → Block → Block
with_unit change block = record { unit = change block.unit; bits = block.bits; positions = block.positions }

-- the blocks with PCAP armed, with room for so many records, and those with PCAP disarmed
abbrev pub blocks_armed : ℕ → List Block → List Block
blocks_armed room blocks = with_named machines capture (with_unit (armed room)) blocks

abbrev pub blocks_disarmed : List Block → List Block
blocks_disarmed blocks = with_named machines capture (with_unit disarmed) blocks

-- the box with these blocks, and what is kept of it
abbrev pub box_with_blocks : Box → List Block → Box
box_with_blocks box blocks =
    record {
      stands = record {
        tick = box.stands.tick;
        bus = box.stands.bus;
        settings = box.stands.settings;
        blocks = blocks;
      };
      past = box.past;
    }

abbrev pub kept_with_blocks : Kept → List Block → Kept
kept_with_blocks kept blocks =
    record { tick = kept.tick; buses = kept.buses; settings = kept.settings; blocks = blocks }

-- PCAP is idle after a tick exactly where it was, or where the tick ended its acquisition.
abbrev pub idle_after : Emit → Bool → Bool
idle_after (emits.Completed condition) idle = true
idle_after _ idle = idle

-- and by a change only where it is armed or disarmed
abbrev pub idle_by : Change → Bool → Bool
idle_by (changes.Set slot raw) idle = idle
idle_by (changes.Arm room) idle = false
idle_by changes.Disarm idle = true

-- an acquisition is over
abbrev pub is_completed : Emit → Bool
is_completed (emits.Completed condition) = true
is_completed _ = false
