-- What the commands of capture tell and do.
use Rattle.std.specs.Prelude.{ℕ, ◌==◌, Bool, List, ◌++◌, length, map, codes, decimal, is_some, Option, Some, None, Result, Ok, Err, if◌then◌else◌}
use Rattle.std.specs.List.{filter}
use Rattle.pb_words.specs.declared.Refusal.{Refusal}
use Rattle.pb_words.specs.declared.Refusal.TheVariants as refusals
use Rattle.pb_buses.specs.declared.Condition.{Condition}
use Rattle.pb_buses.specs.declared.Condition.TheVariants as conditions
use Rattle.pb_fields.specs.Names.{target_of}
use Rattle.pb_pcap.specs.declared.Choice.{Choice}
use Rattle.pb_pcap.specs.declared.Choice.TheVariants as choices
use Rattle.pb_pcap.specs.declared.Field.{Field}
use Rattle.pb_acquire.specs.Acquisitions.{AllAcquisitions, arm_refusal, captured, condition_of}
use Rattle.pb_config.specs.Settings.{Settings}
use Rattle.pb_config.specs.Capturing.{output_of, layout_of}
use Rattle.pb_replies.specs.Replies.{value_reply, list_reply}
use Rattle.pb_acquire.specs.Taking.{reader_of, is_active_reader}
use Rattle.pb_core.specs.Sessions.{session_ids, is_reading}

-- `*CAPTURE?`: each captured field with its choice, in the order of the layout

abbrev pub choice_text : Choice → List ℕ
choice_text choices.No = codes "No"
choice_text choices.Value = codes "Value"
choice_text choices.Min = codes "Min"
choice_text choices.Max = codes "Max"
choice_text choices.Sum = codes "Sum"
choice_text choices.MinMax = codes "Min Max"
choice_text choices.MinMaxSum = codes "Min Max Sum"

abbrev pub capture_line : Field → List ℕ
capture_line field = target_of (output_of field.entry) ++ codes " " ++ choice_text field.choice

abbrev pub captures_reply : Settings → List ℕ
captures_reply settings = list_reply (map capture_line (layout_of settings))

-- `*PCAP.STATUS?`: whether one is armed or running, how many readers are open, and how many of those have an acquisition
-- that was armed and whose end they didn't take

abbrev pub is_busy_reading : AllAcquisitions → ℕ → Bool
is_busy_reading all id = is_active_reader all (reader_of all id)

-- of how many sessions this is so
abbrev pub so_many : (ℕ → Bool) → ℕ
so_many test = length (filter test session_ids)

abbrev pub busy_text : Bool → List ℕ
busy_text is_running = if is_running then codes "Busy " else codes "Idle "

abbrev pub status_reply : AllAcquisitions → List ℕ
status_reply all =
    value_reply (
    busy_text (is_some all.running)
    ++ decimal (so_many (is_reading all))
    ++ codes " "
    ++ decimal (so_many (is_busy_reading all)))

-- `*PCAP.CAPTURED?`: the records of the latest acquisition, 0 before the first
abbrev pub captured_reply : AllAcquisitions → List ℕ
captured_reply all = value_reply (decimal (captured all))

-- `*PCAP.COMPLETION?`: Busy while one is armed or running, how the latest ended, or Idle before the first

abbrev pub condition_text : Condition → List ℕ
condition_text conditions.Ok = codes "Ok"
condition_text conditions.Disarmed = codes "Disarmed"
condition_text conditions.Overrun = codes "Data overrun"

abbrev pub ended_text : Option Condition → List ℕ
ended_text None = codes "Idle"
ended_text (Some condition) = condition_text condition

abbrev pub completion_reply : AllAcquisitions → List ℕ
completion_reply all =
    value_reply (if is_some all.running then codes "Busy" else ended_text (condition_of all))

-- What a command of capture does.

-- every CAPTURE becomes No, an acquisition is armed with a layout, or the one that is armed or running is over
pub data CaptureDeed : Type 0 where
  clears : CaptureDeed
  arms : List Field → CaptureDeed
  disarms : CaptureDeed

-- these commands take no value
abbrev pub without_value : List ℕ → Result CaptureDeed Refusal → Result CaptureDeed Refusal
without_value value deed = if length value == 0 then deed else Err refusals.MalformedValue

-- arming is refused where one is armed or running, and then where nothing is captured
abbrev pub armed_or_refused : List Field → Option Refusal → Result CaptureDeed Refusal
armed_or_refused layout None = Ok (arms layout)
armed_or_refused layout (Some refusal) = Err refusal

abbrev pub arming : AllAcquisitions → List Field → Result CaptureDeed Refusal
arming all layout = armed_or_refused layout (arm_refusal all layout)

-- disarming is refused where none is
abbrev pub disarming : AllAcquisitions → Result CaptureDeed Refusal
disarming all = if is_some all.running then Ok disarms else Err refusals.NotArmed
