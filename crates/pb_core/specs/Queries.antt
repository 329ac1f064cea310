-- What a query is answered.
use Rattle.std.specs.Prelude.{ℕ, ℤ, ◌-◌, Bool, List, [], Option, Some, None, Result, Ok, Err, codes, length, decimal, if◌then◌else◌}
use Rattle.std.specs.Option.{option_map_or, unwrap_or}
use Rattle.pb_words.specs.declared.Refusal.{Refusal}
use Rattle.pb_words.specs.declared.Refusal.TheVariants as refusals
use Rattle.pb_words.specs.Refusing.{result_then}
use Rattle.pb_names.specs.declared.pcap.TheConstants as pcap
use Rattle.pb_names.specs.declared.position_bus.TheConstants as position_bus
use Rattle.pb_fields.specs.declared.Slot.{Slot}
use Rattle.pb_fields.specs.declared.FieldType.{FieldType}
use Rattle.pb_fields.specs.declared.FieldType.TheVariants as types
use Rattle.pb_fields.specs.declared.Attribute.{Attribute}
use Rattle.pb_fields.specs.declared.Attribute.TheVariants as attributes
use Rattle.pb_fields.specs.Slots.{type_at, attribute_at, kind_of}
use Rattle.pb_fields.specs.Entries.{output_entry}
use Rattle.pb_fields.specs.Values.{shown, bit_raw, int_raw}
use Rattle.pb_config.specs.Settings.{Settings, field_slot}
use Rattle.pb_config.specs.Showing.{is_readable, shown_at, scaled_shown}
use Rattle.pb_replies.specs.Replies.{value_reply, list_reply}
use Rattle.pb_replies.specs.Lists.{block_lines, field_lines, attribute_lines, labels_at, position_lines, word_lines, row_lines}
use Rattle.pb_replies.specs.Tables.{table_lines, base64_lines}
use Rattle.pb_buses.specs.Buses.{selected, position}
use Rattle.pb_changes.specs.declared.Group.{Group}
use Rattle.pb_model.specs.Tick.{Standing}
use Rattle.pb_model.specs.Settings.{read_of}
use Rattle.pb_model.specs.Tables.{table_of}
use Rattle.pb_core.specs.declared.targets.Named.{Named}
use Rattle.pb_core.specs.declared.targets.Named.TheVariants as names
use Rattle.pb_acquire.specs.Acquisitions.{AllAcquisitions}
use Rattle.pb_core.specs.Captures.{captures_reply, status_reply, captured_reply, completion_reply}
use Rattle.pb_core.specs.Who.{who_reply}
use Rattle.pb_core.specs.Naming.{named_by}

-- Values.

-- the level of an output
abbrev pub level_of : Standing → Slot → Bool
level_of box slot = selected box.bus (output_entry slot)

-- the value of a position
abbrev pub position_of : Standing → Slot → ℤ
position_of box slot = position box.bus (output_entry slot - position_bus.FIRST)

-- what is shown of them, and of what a block reports: a number, or its label
abbrev pub level_shown : Standing → Slot → List ℕ
level_shown box slot = shown (kind_of slot) (bit_raw (level_of box slot))

abbrev pub position_shown : Standing → Slot → List ℕ
position_shown box slot = shown (kind_of slot) (int_raw (position_of box slot))

abbrev pub read_shown : Standing → Slot → List ℕ
read_shown box slot = shown (kind_of slot) (read_of box.blocks slot)

-- what a field that can be read is answered: its value, and a table word by word
abbrev pub field_reply : Settings → Standing → Slot → FieldType → List ℕ
field_reply settings box slot types.ReadUint = value_reply (read_shown box slot)
field_reply settings box slot (types.ReadEnum labels) = value_reply (read_shown box slot)
field_reply settings box slot types.BitOut = value_reply (level_shown box slot)
field_reply settings box slot types.PosOut = value_reply (position_shown box slot)
field_reply settings box slot types.Table = list_reply (table_lines (table_of box.blocks slot.instance))
field_reply settings box slot _ = value_reply (shown_at settings slot)

-- what an attribute is answered; the words of the bit bus are fields of PCAP, one after the other
abbrev pub attribute_reply : Settings → Standing → Slot → Attribute → List ℕ
attribute_reply settings box slot attributes.Labels = list_reply (unwrap_or (labels_at (field_slot slot)) [])
attribute_reply settings box slot attributes.Scaled = value_reply (scaled_shown settings slot (position_of box slot))
attribute_reply settings box slot attributes.Bits = list_reply (word_lines (slot.field - pcap.BITS0))
attribute_reply settings box slot attributes.Length = value_reply (decimal (length (table_of box.blocks slot.instance)))
attribute_reply settings box slot attributes.Fields = list_reply row_lines
attribute_reply settings box slot attributes.Base64 = list_reply (base64_lines (table_of box.blocks slot.instance))
attribute_reply settings box slot _ = value_reply (shown_at settings slot)

abbrev pub readable_reply : Settings → Standing → Slot → Option Attribute → List ℕ
readable_reply settings box slot None = field_reply settings box slot (type_at slot)
readable_reply settings box slot (Some attribute) = attribute_reply settings box slot attribute

-- what the query of a slot is answered, or that it can't be read
abbrev pub slot_reply : Settings → Standing → Slot → Result (List ℕ) Refusal
slot_reply settings box slot =
    if is_readable slot then Ok (readable_reply settings box slot (attribute_at slot)) else Err refusals.NotReadable

-- Targets.

-- the labels of a slot, or that it has none
abbrev pub labels_or_refused : Slot → Result (List ℕ) Refusal
labels_or_refused slot = option_map_or (λ labels. Ok (list_reply labels)) (labels_at slot) (Err refusals.NotReadable)

-- what is said by `*IDN?`
abbrev pub identity : List ℕ
identity = codes "panda_sim 1.0"

-- what the query of what is named is answered, by the settings, what stands in the box, which control sessions are open,
-- the acquisitions, and the reports to the session that asks
abbrev pub named_reply : Settings → Standing → List Bool → AllAcquisitions → (Option Group → List ℕ) → Named → Result (List ℕ) Refusal
named_reply settings box is_open_at all reports names.Identity = Ok (value_reply identity)
named_reply settings box is_open_at all reports names.Sessions = Ok (who_reply is_open_at all)
named_reply settings box is_open_at all reports names.Blocks = Ok (list_reply block_lines)
named_reply settings box is_open_at all reports names.Positions = Ok (list_reply position_lines)
named_reply settings box is_open_at all reports names.Captures = Ok (captures_reply settings)
named_reply settings box is_open_at all reports (names.Changes group) = Ok (reports group)
named_reply settings box is_open_at all reports names.Arming = Err refusals.NotReadable
named_reply settings box is_open_at all reports names.Disarming = Err refusals.NotReadable
named_reply settings box is_open_at all reports names.Status = Ok (status_reply all)
named_reply settings box is_open_at all reports names.Captured = Ok (captured_reply all)
named_reply settings box is_open_at all reports names.Completion = Ok (completion_reply all)
named_reply settings box is_open_at all reports (names.Labels slot) = labels_or_refused slot
named_reply settings box is_open_at all reports (names.Fields block) = Ok (list_reply (field_lines block))
named_reply settings box is_open_at all reports (names.Attributes slot) = Ok (list_reply (attribute_lines slot))
named_reply settings box is_open_at all reports (names.Value slot) = slot_reply settings box slot

-- The reply to the query of a target, or the first refusal that fits: that it names nothing; then that it
-- can't be read.
abbrev pub query_reply : Settings → Standing → List Bool → AllAcquisitions → (Option Group → List ℕ) → List ℕ → Result (List ℕ) Refusal
query_reply settings box is_open_at all reports target =
    result_then (named_by target) (named_reply settings box is_open_at all reports)
