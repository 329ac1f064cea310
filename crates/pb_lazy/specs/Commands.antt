-- What commands leave of a lazy block: it stands at their tick, and its deadline is outdated.
use Rattle.std.specs.Prelude.{ℕ, true, List, Result, Ok, Err}
use Rattle.pb_words.specs.declared.Refusal.{Refusal}
use Rattle.pb_fields.specs.declared.Slot.{Slot}
use Rattle.pb_model.specs.declared.units.Unit.{Unit as AnyUnit}
use Rattle.pb_model.specs.Settings.{with_value}
use Rattle.pb_model.specs.Units.{armed, disarmed, with_words}
use Rattle.pb_lazy.specs.declared.lazies.Lazy.{Lazy}
use Rattle.pb_lazy.specs.Lazy.{awake, settled}

-- a setting took a value
abbrev pub set_lazy : Slot → ℕ → ℕ → Lazy → Lazy
set_lazy slot raw tick lazy =
    record (settled tick (awake tick lazy)) {
      block = with_value slot raw (settled tick (awake tick lazy)).block;
      turn = tick;
      wired = true;
      outdated = true;
    }

-- its unit was changed
abbrev pub unit_changed : (AnyUnit → AnyUnit) → ℕ → Lazy → Lazy
unit_changed change tick lazy =
    record (awake tick lazy) {
      block = record {
        unit = change (awake tick lazy).block.unit;
        bits = lazy.block.bits;
        positions = lazy.block.positions;
      };
      outdated = true;
    }

abbrev pub armed_lazy : ℕ → ℕ → Lazy → Lazy
armed_lazy room tick lazy = unit_changed (armed room) tick lazy

abbrev pub disarmed_lazy : ℕ → Lazy → Lazy
disarmed_lazy tick lazy = unit_changed disarmed tick lazy

-- a table write left these words, or was refused
abbrev pub written_lazy : ℕ → Result (List ℕ) Refusal → Lazy → Lazy
written_lazy tick (Ok words) lazy = unit_changed (with_words words) tick lazy
written_lazy tick (Err refusal) lazy = awake tick lazy
