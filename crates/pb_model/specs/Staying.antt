-- What is set in the box stays set.
use Rattle.std.specs.Prelude.{◌≡◌, ℕ, Bool, true, false}
use Rattle.pb_fields.specs.declared.Slot.{Slot}
use Rattle.pb_fields.specs.declared.FieldType.{FieldType}
use Rattle.pb_fields.specs.declared.FieldType.TheVariants as types
use Rattle.pb_fields.specs.Slots.{IsSlot, type_at}
use Rattle.pb_model.specs.declared.changes.Change.TheVariants as changes
use Rattle.pb_model.specs.Changes.{is_taken}
use Rattle.pb_model.specs.Tick.{Box}
use Rattle.pb_model.specs.Settings.{changed_box}

abbrev pub is_action : FieldType → Bool
is_action types.WriteAction = true
is_action _ = false

-- The box keeps what is set in the slot: it takes a value of it, and the slot is no action.
pub record IsKept (slot : Slot) : Type 0 where
  pub in_catalogue : IsSlot slot
  pub taken : is_taken slot ≡ true
  pub lasting : is_action (type_at slot) ≡ false

-- the box has this value in a slot already: to give it changes nothing
abbrev pub HasValue : Box → Slot → ℕ → Type 0
HasValue box slot raw = changed_box box (changes.Set slot raw) ≡ box
