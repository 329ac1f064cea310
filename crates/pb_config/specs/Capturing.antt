-- What is captured: the layout that the settings give a record.
use Rattle.std.specs.Prelude.{◌≡◌, ℕ, ◌+◌, ◌-◌, ◌==◌, nat_lt, pos, false, codes, Ok, List, [], ◌∷◌, ◌++◌, map, take, slice_set, if◌then◌else◌}
use Rattle.std.specs.List.{flat_map, range_with_len}
use Rattle.pb_words.specs.declared.Decimal9.{Decimal9}
use Rattle.pb_names.specs.declared.TheConstants.{ITSELF}
use Rattle.pb_names.specs.declared.inenc.TheConstants as inenc
use Rattle.pb_names.specs.declared.counter.TheConstants as counter
use Rattle.pb_names.specs.declared.pcap.TheConstants as pcap
use Rattle.pb_names.specs.declared.pos_out.TheConstants as pos_out
use Rattle.pb_names.specs.declared.capture.TheConstants as capture
use Rattle.pb_names.specs.declared.position_bus.TheConstants as position_bus
use Rattle.pb_fields.specs.declared.Slot.{Slot}
use Rattle.pb_fields.specs.Order.{slot_at}
use Rattle.pb_pcap.specs.declared.entries.TheConstants as entries
use Rattle.pb_pcap.specs.declared.Choice.{Choice}
use Rattle.pb_pcap.specs.declared.Choice.TheVariants as choices
use Rattle.pb_pcap.specs.declared.Field.{Field}
use Rattle.pb_pcap.specs.Fields.{units_of}
use Rattle.pb_config.specs.Settings.{Settings, raw_of, text_of, place}
use Rattle.pb_fields.specs.Slots.{IsSlot, attribute_at}
use Rattle.pb_config.specs.Assigning.{raw_given, assigned, changes_box}
use Rattle.pb_config.specs.Showing.{decimal_at}

-- The outputs.

-- that of a position entry: INENC1.VAL to INENC4.VAL, then COUNTER1.OUT to COUNTER8.OUT
abbrev pub position_output : ℕ → Slot
position_output entry =
    if nat_lt entry inenc.INSTANCES then slot_at inenc.BLOCK (entry + 1) inenc.VAL ITSELF
    else slot_at counter.BLOCK (entry - inenc.INSTANCES + 1) counter.OUT ITSELF

-- that of an entry behind the positions: PCAP's time stamps, its count and the words of the bit bus
abbrev pub own_output : ℕ → Slot
own_output entry = slot_at pcap.BLOCK 1 (pcap.TS_START + (entry - entries.TS_START)) ITSELF

-- that of any entry
abbrev pub output_of : ℕ → Slot
output_of entry = if nat_lt entry position_bus.WIDTH then position_output entry else own_output entry

-- the attribute CAPTURE of an output
abbrev pub capture_of : Slot → Slot
capture_of slot = record slot { attr = pos_out.CAPTURE }

-- what the number of a choice's label chooses
abbrev pub choice_of : ℕ → Choice
choice_of raw =
    if raw == capture.VALUE then choices.Value
    else (if raw == capture.MIN then choices.Min
    else (if raw == capture.MAX then choices.Max
    else (if raw == capture.SUM then choices.Sum
    else (if raw == capture.MIN_MAX then choices.MinMax
    else (if raw == capture.MIN_MAX_SUM then choices.MinMaxSum else choices.No)))))

-- The layout.

-- a position with its SCALE, its OFFSET and its UNITS, which are 32 bytes at most
abbrev pub position_field : Settings → ℕ → Choice → Field
position_field settings entry choice =
    let scale : Decimal9 = record { billionths = decimal_at settings (position_output entry) pos_out.SCALE } in
    let offset : Decimal9 = record { billionths = decimal_at settings (position_output entry) pos_out.OFFSET } in
    record {
      entry = entry;
      choice = choice;
      scale = scale;
      offset = offset;
      units = units_of (take 32 (text_of settings (position_output entry)));
    }

-- one of PCAP's own, which has no scale
abbrev pub own_field : ℕ → Field
own_field entry =
    let none : Decimal9 = record { billionths = pos 0 } in
    record { entry = entry; choice = choices.Value; scale = none; offset = none; units = units_of [] }

-- what is captured of a position entry, if anything
abbrev pub field_if : Settings → ℕ → Choice → List Field
field_if settings entry choices.No = []
field_if settings entry choice = position_field settings entry choice ∷ []

abbrev pub captured_position : Settings → ℕ → List Field
captured_position settings entry = field_if settings entry (choice_of (raw_of settings (capture_of (position_output entry))))

-- and of one of PCAP's own
abbrev pub captured_own : Settings → ℕ → List Field
captured_own settings entry =
    if raw_of settings (capture_of (own_output entry)) == capture.VALUE then own_field entry ∷ [] else []

-- the positions by rising entry, then TS_START, TS_END, TS_TRIG, GATE_DURATION and BITS0 to BITS3
unfoldable pub layout_of : Settings → List Field
layout_of settings =
    flat_map (captured_position settings) (range_with_len 0 position_bus.USED)
    ++ flat_map (captured_own settings) (range_with_len entries.TS_START (entries.COUNT - entries.TS_START))

-- Nothing is captured.

-- the slots of all CAPTURE
unfoldable pub capture_slots : List Slot
capture_slots =
    map (λ entry. capture_of (position_output entry)) (range_with_len 0 position_bus.USED)
    ++ map (λ entry. capture_of (own_output entry)) (range_with_len entries.TS_START (entries.COUNT - entries.TS_START))

-- these slots have the number 0
abbrev pub cleared : List Slot → Settings → Settings
cleared [] settings = settings
cleared (slot ∷ slots) settings =
    cleared slots (record { raws = slice_set settings.raws (place slot) capture.NO; texts = settings.texts })

-- every CAPTURE becomes No
abbrev pub without_captures : Settings → Settings
without_captures settings = cleared capture_slots settings

-- No can be assigned to the slot, which is its number 0 and changes nothing in the box
pub record IsCapture (slot : Slot) : Type 0 where
  pub in_catalogue : IsSlot slot
  pub told : (settings : Settings) → raw_given settings slot (codes "No") ≡ Ok 0
  pub left : (settings : Settings) → assigned settings slot (codes "No") 0
      ≡ record { raws = slice_set settings.raws (place slot) 0; texts = settings.texts }
  pub quiet : changes_box (attribute_at slot) ≡ false
