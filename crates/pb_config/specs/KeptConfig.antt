-- What a Config keeps: the settings, and the numbers of the assignments.
use Rattle.std.specs.Prelude.{ℕ, List, Result, Ok, Err}
use Rattle.pb_words.specs.declared.Refusal.{Refusal}
use Rattle.pb_fields.specs.declared.Slot.{Slot}
use Rattle.pb_config.specs.Settings.{Settings}
use Rattle.pb_config.specs.Defaults.{fresh}
use Rattle.pb_config.specs.Assigning.{raw_given, target, after_assignment}
use Rattle.pb_config.specs.Capturing.{capture_slots, without_captures}
use Rattle.pb_config.specs.Numbers.{Numbers, no_numbers, noted, all_noted}

pub record KeptConfig : Type 0 where
  pub settings : Settings
  pub numbers : Numbers

-- at first the settings have their defaults, and nothing was assigned
abbrev pub fresh_config : KeptConfig
fresh_config = record { settings = fresh; numbers = no_numbers }

-- An accepted assignment is one of the slot that it sets: RAW of a time sets the time, UNITS itself. A refused
-- one has no number.
abbrev pub numbers_by : Numbers → Slot → Result ℕ Refusal → Numbers
numbers_by numbers slot (Ok raw) = noted numbers (target slot)
numbers_by numbers slot (Err refusal) = numbers

-- after this text was assigned to the slot
abbrev pub with_assignment : KeptConfig → Slot → List ℕ → KeptConfig
with_assignment kept slot text = record {
  settings = after_assignment kept.settings slot text;
  numbers = numbers_by kept.numbers slot (raw_given kept.settings slot text);
}

-- after the table of this slot was written
abbrev pub with_note : KeptConfig → Slot → KeptConfig
with_note kept slot = record { settings = kept.settings; numbers = noted kept.numbers slot }

-- after No was assigned to each CAPTURE
abbrev pub with_clearing : KeptConfig → KeptConfig
with_clearing kept = record {
  settings = without_captures kept.settings;
  numbers = all_noted kept.numbers capture_slots;
}
