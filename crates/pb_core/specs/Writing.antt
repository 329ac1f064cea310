-- What a table write gives, and why it is refused.
use Rattle.std.specs.Prelude.{ℕ, Bool, true, false, List, ◌∷◌, Option, None, Result, Err, if◌then◌else◌}
use Rattle.pb_words.specs.declared.Refusal.{Refusal}
use Rattle.pb_words.specs.declared.Refusal.TheVariants as refusals
use Rattle.pb_words.specs.Refusing.{result_then, result_map}
use Rattle.pb_fields.specs.declared.Slot.{Slot}
use Rattle.pb_fields.specs.declared.FieldType.{FieldType}
use Rattle.pb_fields.specs.declared.FieldType.TheVariants as types
use Rattle.pb_fields.specs.declared.Attribute.{Attribute}
use Rattle.pb_fields.specs.Slots.{type_at, attribute_at}
use Rattle.pb_tables.specs.Computed.{written}
use Rattle.pb_model.specs.Tick.{Standing}
use Rattle.pb_model.specs.Tables.{table_of, box_with_table}
use Rattle.pb_core.specs.Core.{CoreState}
use Rattle.pb_core.specs.declared.targets.Named.{Named}
use Rattle.pb_core.specs.declared.targets.Named.TheVariants as names
use Rattle.pb_core.specs.Naming.{named_by}

-- the words that a table write leaves in this table
pub record Written : Type 0 where
  pub slot : Slot
  pub words : List ℕ

abbrev pub left_to : Slot → List ℕ → Written
left_to s table = record { slot = s; words = table }

-- the core where a table write has left them, and the table counts as assigned
abbrev pub with_written : CoreState → Written → CoreState
with_written core new = record core {
  assigned = new.slot ∷ core.assigned;
  box = box_with_table core.box new.slot.instance new.words;
}

-- the slot is the table of a sequencer
abbrev pub is_table_by : FieldType → Option Attribute → Bool
is_table_by types.Table None = true
is_table_by _ _ = false

abbrev pub is_table : Slot → Bool
is_table slot = is_table_by (type_at slot) (attribute_at slot)

-- what a body gives to a table, by the words that stand in it
abbrev pub table_written : Standing → Bool → Bool → List ℕ → Slot → Result Written Refusal
table_written box append base64 body slot =
    result_map (left_to slot) (written (table_of box.blocks slot.instance) append base64 body)

-- a table write to what is named: only the table of a sequencer takes a body
abbrev pub slot_written : Standing → Bool → Bool → List ℕ → Slot → Result Written Refusal
slot_written box append base64 body slot =
    if is_table slot then table_written box append base64 body slot else Err refusals.NotWriteable

abbrev pub named_written : Standing → Bool → Bool → List ℕ → Named → Result Written Refusal
named_written box append base64 body (names.Value slot) = slot_written box append base64 body slot
named_written box append base64 body _ = Err refusals.NotWriteable

-- a table write to what is named can be accepted
abbrev pub takes_body : Named → Bool
takes_body (names.Value slot) = is_table slot
takes_body _ = false

-- What a table write gives, or the first refusal that fits: that the target names nothing; then that it is no
-- table; then of the body.
abbrev pub table_write : Standing → List ℕ → Bool → Bool → List ℕ → Result Written Refusal
table_write box target append base64 body = result_then (named_by target) (named_written box append base64 body)
