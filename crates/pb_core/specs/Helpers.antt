-- Words of private helpers: no public clause cites them.
use Rattle.std.specs.Prelude.{◌<◌, Bool, true, false}
use Rattle.pb_names.specs.declared.TheConstants.{BLOCKS}
use Rattle.pb_fields.specs.declared.FieldType.{FieldType}
use Rattle.pb_fields.specs.declared.FieldType.TheVariants as types
use Rattle.pb_fields.specs.Slots.{IsSlot}
use Rattle.pb_buses.specs.Buses.{changed_at}
use Rattle.pb_model.specs.Kept.{Kept, stands_of}
use Rattle.pb_config.specs.Numbers.{number_of}
use Rattle.pb_config.specs.KeptConfig.{KeptConfig}
use Rattle.pb_changes.specs.Past.{Told}
use Rattle.pb_core.specs.declared.events.Event.{Event}
use Rattle.pb_core.specs.declared.events.Event.TheVariants as events
use Rattle.pb_core.specs.declared.targets.Named.{Named}
use Rattle.pb_core.specs.declared.targets.Named.TheVariants as names
use Rattle.pb_core.specs.Telling.{shown_now}

-- what is named is in the catalogue
abbrev pub IsThere : Named → Type 0
IsThere names.Identity = Unit {0}
IsThere names.Blocks = Unit {0}
IsThere names.Sessions = Unit {0}
IsThere names.Positions = Unit {0}
IsThere names.Captures = Unit {0}
IsThere (names.Changes group) = Unit {0}
IsThere names.Arming = Unit {0}
IsThere names.Disarming = Unit {0}
IsThere names.Status = Unit {0}
IsThere names.Captured = Unit {0}
IsThere names.Completion = Unit {0}
IsThere (names.Labels slot) = IsSlot slot
IsThere (names.Fields block) = block < BLOCKS
IsThere (names.Attributes slot) = IsSlot slot
IsThere (names.Value slot) = IsSlot slot

-- what is named is a report
abbrev pub is_report : Named → Bool
is_report (names.Changes group) = true
is_report _ = false

-- what is named is a field or an attribute
abbrev pub is_value : Named → Bool
is_value (names.Value slot) = true
is_value _ = false

-- the event is an advance
abbrev pub is_advance : Event → Bool
is_advance (events.Advance to most) = true
is_advance _ = false

-- a block reports a number, or one of some labels
abbrev pub is_reported : FieldType → Bool
is_reported types.ReadUint = true
is_reported (types.ReadEnum labels) = true
is_reported _ = false

-- What a report is told of what is kept of settings and box.
abbrev pub told_of : KeptConfig → Kept → Told
told_of config box = record {
  assigned_at = number_of config.numbers;
  changed_at = changed_at box.buses;
  shows = shown_now config.settings (stands_of box);
  tick = box.tick;
  assignments = config.numbers.count;
}
