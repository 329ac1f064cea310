-- What an assignment gives, and why it is refused.
use Rattle.std.specs.Prelude.{ℕ, ◌==◌, ◌||◌, Bool, true, false, List, ◌∷◌, ◌++◌, reverse, length, codes, Option, Some, None, Result, Ok, Err, if◌then◌else◌}
use Rattle.pb_words.specs.declared.Refusal.{Refusal}
use Rattle.pb_words.specs.declared.Refusal.TheVariants as refusals
use Rattle.pb_words.specs.Refusing.{result_then, result_map}
use Rattle.pb_fields.specs.declared.Slot.{Slot}
use Rattle.pb_model.specs.declared.Change.{Change}
use Rattle.pb_model.specs.Tick.{Box}
use Rattle.pb_model.specs.Settings.{changed_box}
use Rattle.pb_config.specs.Settings.{Settings}
use Rattle.pb_config.specs.Assigning.{raw_given, is_assignable, target, assigned, change_of}
use Rattle.pb_buses.specs.declared.Condition.TheVariants as conditions
use Rattle.pb_model.specs.declared.Change.TheVariants as changes
use Rattle.pb_pcap.specs.declared.Field.{Field}
use Rattle.pb_acquire.specs.Acquisitions.{AllAcquisitions, armed, ended, room_of}
use Rattle.pb_config.specs.Capturing.{capture_slots, layout_of, without_captures}
use Rattle.pb_changes.specs.declared.Group.{Group}
use Rattle.pb_core.specs.Captures.{CaptureDeed, clears, arms, disarms, without_value, arming, disarming}
use Rattle.pb_core.specs.Core.{CoreState}
use Rattle.pb_core.specs.declared.targets.Named.{Named}
use Rattle.pb_core.specs.declared.targets.Named.TheVariants as names
use Rattle.pb_core.specs.Naming.{is_same, named_by}
use Rattle.pb_core.specs.Telling.{after_resetting}

-- a text that is given to a slot, and its raw value
pub record Given : Type 0 where
  pub slot : Slot
  pub text : List ℕ
  pub raw : ℕ

abbrev pub given : Slot → List ℕ → ℕ → Given
given s value number = record { slot = s; text = value; raw = number }

-- the box after a change, if there is one
abbrev pub changed_by : Option Change → Box → Box
changed_by None box = box
changed_by (Some change) box = changed_box box change

-- The core where this is given: the settings and the box change, and the slot counts as assigned. To assign RAW of a time
-- is to assign its field.
abbrev pub with_given : CoreState → Given → CoreState
with_given core new = record core {
  settings = assigned core.settings new.slot new.text new.raw;
  assigned = target new.slot ∷ core.assigned;
  box = changed_by (change_of new.slot new.raw) core.box;
}

-- what an assignment to a slot gives
abbrev pub slot_given : Settings → List ℕ → Slot → Result Given Refusal
slot_given settings value slot = result_map (given slot value) (raw_given settings slot value)

-- What an assignment does: it gives a slot a value, or it is a command of capture; or it resets what was reported of a
-- group, or of all, so that all is reported next, or nothing up to now.
pub data Deed : Type 0 where
  gives : Given → Deed
  captures : CaptureDeed → Deed
  resets : Option Group → Bool → Deed

-- `S`: all is reported next; `E` or nothing: nothing up to now is
abbrev pub reset_given : List ℕ → Result Bool Refusal
reset_given value =
    if is_same value (codes "S") then Ok true
    else (if is_same value (codes "E") || length value == 0 then Ok false else Err refusals.MalformedValue)

-- an assignment to what is named: only a slot takes a value
abbrev pub named_given : Settings → AllAcquisitions → List ℕ → Named → Result Deed Refusal
named_given settings all value (names.Value slot) = result_map gives (slot_given settings value slot)
named_given settings all value names.Captures = result_map captures (without_value value (Ok clears))
named_given settings all value (names.Changes group) = result_map (resets group) (reset_given value)
named_given settings all value names.Arming = result_map captures (without_value value (arming all (layout_of settings)))
named_given settings all value names.Disarming = result_map captures (without_value value (disarming all))
named_given settings all value _ = Err refusals.NotWriteable

-- a value can be assigned to what is named, be it an empty one
abbrev pub takes_value : Named → Bool
takes_value (names.Value slot) = is_assignable slot
takes_value names.Captures = true
takes_value (names.Changes group) = true
takes_value names.Arming = true
takes_value names.Disarming = true
takes_value _ = false

-- What an assignment does, or the first refusal that fits: that the target names nothing; then that it
-- takes no value; then of the value; then of the command of capture.
abbrev pub assignment : Settings → AllAcquisitions → List ℕ → List ℕ → Result Deed Refusal
assignment settings all target value = result_then (named_by target) (named_given settings all value)

-- The core after a deed.

-- every CAPTURE becomes No, one after the other, and counts as assigned
abbrev pub with_clearing : CoreState → CoreState
with_clearing core =
    record core {
      settings = without_captures core.settings;
      assigned = reverse capture_slots ++ core.assigned;
    }

-- PCAP and an acquisition are armed, with room for as many records
abbrev pub with_arming : CoreState → List Field → CoreState
with_arming core layout =
    record core {
      box = changed_box core.box (changes.Arm (room_of layout));
      acquisitions = armed layout core.acquisitions;
    }

-- PCAP is disarmed, and the acquisition is over
abbrev pub with_disarming : CoreState → CoreState
with_disarming core =
    record core {
      box = changed_box core.box changes.Disarm;
      acquisitions = ended conditions.Disarmed core.acquisitions;
    }

-- what a deed of a session leaves
abbrev pub with_deed : CoreState → ℕ → Deed → CoreState
with_deed core id (gives new) = with_given core new
with_deed core id (captures clears) = with_clearing core
with_deed core id (captures (arms layout)) = with_arming core layout
with_deed core id (captures disarms) = with_disarming core
with_deed core id (resets group all) = after_resetting core id group all
