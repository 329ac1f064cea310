-- Acquisitions: what is captured from one arming to its end.
use Rattle.std.specs.Prelude.{ℕ, ◌+◌, ◌/◌, ◌==◌, nat_le, List, [], ◌∷◌, ◌++◌, length, replicate, Option, Some, None, is_some, if◌then◌else◌}
use Rattle.std.specs.List.{last_or, filter}
use Rattle.pb_words.specs.declared.Refusal.{Refusal}
use Rattle.pb_words.specs.declared.Refusal.TheVariants as refusals
use Rattle.pb_buses.specs.declared.Condition.{Condition}
use Rattle.pb_buses.specs.declared.Record.{Record}
use Rattle.pb_pcap.specs.declared.Field.{Field}
use Rattle.pb_pcap.specs.Fields.{size_of}
use Rattle.pb_acquire.specs.declared.acquiring.TheConstants as limits
use Rattle.pb_acquire.specs.declared.readers.Reader.{Reader}
use Rattle.pb_acquire.specs.Readers.{is_needed}

-- One acquisition: its number, what a record of it holds, its records, and how it ended, if it has.
pub record Acquisition : Type 0 where
  pub number : ℕ
  pub layout : List Field
  pub records : List Record
  pub condition : Option Condition

-- All acquisitions: those that are over, in the order of arming, and the one that is armed or running; and for each of
-- the ids 1 to 8 its reader, if it is open.
pub record AllAcquisitions : Type 0 where
  pub completed : List Acquisition
  pub running : Option Acquisition
  pub readers : List (Option Reader)

-- before the first
abbrev pub opening : AllAcquisitions
opening = record { completed = []; running = None; readers = replicate 8 None }

-- An acquisition, and how many came before it.
pub record Placed : Type 0 where
  pub before : ℕ
  pub acquisition : Acquisition

abbrev pub placed : ℕ → List Acquisition → List Placed
placed before [] = []
placed before (acquisition ∷ others) = record { before = before; acquisition = acquisition } ∷ placed (before + 1) others

-- Of those that are over, the ones that are still held: an open reader has still to take from them.
abbrev pub held_of : List (Option Reader) → List Acquisition → List Placed
held_of readers completed = filter (λ p. is_needed readers p.before) (placed 0 completed)

abbrev pub held : AllAcquisitions → List Placed
held all = held_of all.readers all.completed

-- how many records of this layout an acquisition can have
abbrev pub room_of : List Field → ℕ
room_of layout = limits.RECORDS_LIMIT / size_of layout

-- Why a layout isn't armed: the first of these that fits.
abbrev pub arm_refusal : AllAcquisitions → List Field → Option Refusal
arm_refusal all layout =
    if is_some all.running then Some refusals.AlreadyArmed
    else (if length layout == 0 then Some refusals.NothingCaptured
    else (if nat_le limits.HELD_LIMIT (length (held all)) then Some refusals.TooManyHeld else None))

-- The next number is armed. Its layout stays as it is now.
abbrev pub armed : List Field → AllAcquisitions → AllAcquisitions
armed layout all =
    record all {
      running = Some (record { number = length all.completed + 1; layout = layout; records = []; condition = None });
    }

-- one record more
abbrev pub with_record : Record → Option Acquisition → Option Acquisition
with_record row None = None
with_record row (Some acquisition) =
    Some (record {
      number = acquisition.number;
      layout = acquisition.layout;
      records = acquisition.records ++ row ∷ [];
      condition = acquisition.condition;
    })

abbrev pub recorded : Record → AllAcquisitions → AllAcquisitions
recorded row all = record all { running = with_record row all.running }

-- the one that is armed or running, if any, as it is when it is over
abbrev pub with_condition : Condition → Option Acquisition → List Acquisition
with_condition condition None = []
with_condition condition (Some acquisition) =
    record {
      number = acquisition.number;
      layout = acquisition.layout;
      records = acquisition.records;
      condition = Some condition;
    } ∷ []

abbrev pub ended : Condition → AllAcquisitions → AllAcquisitions
ended condition all = record all { completed = all.completed ++ with_condition condition all.running; running = None }

-- the one that was armed last
abbrev pub latest_of : Option Acquisition → List Acquisition → Option Acquisition
latest_of (Some acquisition) completed = Some acquisition
latest_of None completed = last_or None completed

abbrev pub latest : AllAcquisitions → Option Acquisition
latest all = latest_of all.running all.completed

-- what is told of it
abbrev pub captured_by : Option Acquisition → ℕ
captured_by None = 0
captured_by (Some acquisition) = length acquisition.records

abbrev pub condition_by : Option Acquisition → Option Condition
condition_by None = None
condition_by (Some acquisition) = acquisition.condition

abbrev pub captured : AllAcquisitions → ℕ
captured all = captured_by (latest all)

abbrev pub condition_of : AllAcquisitions → Option Condition
condition_of all = condition_by (latest all)
