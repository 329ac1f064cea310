-- Words of private helpers: no public clause cites them.
use Rattle.std.specs.Prelude.{ℕ, List, slice_set, Option}
use Rattle.pb_fields.specs.declared.Slot.{Slot}
use Rattle.pb_config.specs.Settings.{Settings, place, instance_place}
use Rattle.pb_config.specs.Assigning.{with_text}
use Rattle.pb_config.specs.Numbers.{noted}
use Rattle.pb_config.specs.KeptConfig.{KeptConfig}

-- after this raw value was assigned to the slot
abbrev pub with_raw : KeptConfig → Slot → ℕ → KeptConfig
with_raw kept slot raw = record {
  settings = record { raws = slice_set kept.settings.raws (place slot) raw; texts = kept.settings.texts };
  numbers = noted kept.numbers slot;
}

-- with the text that an assignment to the slot keeps, if any
abbrev pub with_kept : KeptConfig → Slot → Option (List ℕ) → KeptConfig
with_kept kept slot text = record {
  settings = record { raws = kept.settings.raws; texts = with_text kept.settings.texts (instance_place slot) text };
  numbers = kept.numbers;
}
