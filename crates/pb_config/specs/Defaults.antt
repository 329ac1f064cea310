-- The settings as they are at first.
use Rattle.std.specs.Prelude.{ℕ, ◌/◌, ◌%◌, ◌==◌, List, [], map, codes, if◌then◌else◌}
use Rattle.std.specs.List.{range_with_len}
use Rattle.pb_names.specs.declared.lut.TheConstants as lut
use Rattle.pb_fields.specs.declared.Slot.{Slot}
use Rattle.pb_fields.specs.Slots.{default_of}
use Rattle.pb_fields.specs.Order.{slot_at}
use Rattle.pb_config.specs.Settings.{Settings, place_count, instance_count}

-- what the slot at a place holds at first, which is the same for each instance
abbrev pub default_at : ℕ → ℕ
default_at p = default_of (slot_at (p / 1176) 1 (p / 7 % 21) (p % 7))

-- what an instance of a block keeps as a text at first: FUNC of a LUT is `0`, and units are empty
abbrev pub text_of_block : ℕ → List ℕ
text_of_block b = if b == lut.BLOCK then codes "0" else []

-- the text that the slot's instance keeps at first
abbrev pub default_text : Slot → List ℕ
default_text slot = text_of_block slot.block

-- the values of the first n places
unfoldable pub first_raws : ℕ → List ℕ
first_raws n = map default_at (range_with_len 0 n)

-- the texts of the first n instances
unfoldable pub first_texts : ℕ → List (List ℕ)
first_texts n = map (λ i. text_of_block (i / 8)) (range_with_len 0 n)

-- the settings at first
abbrev pub fresh : Settings
fresh = record { raws = first_raws place_count; texts = first_texts instance_count }
